use Rattle.own_trace.proofs.keeping.OwnLinesSink.answered.Goals as goal

pub returns-clause-done : goal.returns-clause-done
returns-clause-done g c before after read steps = c.keep_event.ensures.done before after _ c.is_refusal.ensures read steps
