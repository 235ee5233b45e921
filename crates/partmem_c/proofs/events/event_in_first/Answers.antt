use Rattle.std.proofs.Common.{◌++◌, drop, ap, ◌∙◌}
use Rattle.std.proofs.lemmas.List.{take-append-drop}
use Rattle.partmem_c.proofs.EventLemmas.{runs_wider}
use Rattle.partmem_c.proofs.events.event_in_first.Goals as goal

pub returns-clause-done : goal.returns-clause-done
returns-clause-done c = λ done.
    runs_wider 64 _ _ c.args.request.now c.args.bytes.now _ c.args.buffer.now c.other_event.new.buffer
    c.requires.buffer c.other_event.auto.buffer (c.other_event.ensures.done done)

pub returns-clause-not_done : goal.returns-clause-not_done
returns-clause-not_done c = λ failed.
    let kept = c.other_event.ensures.not_done failed in (
      kept.0,
      kept.1,
      ap (λ xs. xs ++ drop 64 c.args.buffer.now) kept.2 ∙ take-append-drop 64 c.args.buffer.now,
    )
