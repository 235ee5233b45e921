use Rattle.partmem_c.proofs.events.plain_event.Goals as goal

pub returns-clause-done : goal.returns-clause-done
returns-clause-done g c = λ done bytes buffer. c.ask.ensures.done done c.args.request.now bytes buffer (c.plain_request-command.ensures.says bytes)
