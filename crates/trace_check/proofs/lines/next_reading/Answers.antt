use Rattle.std.proofs.Common.{[], sym, ◌∙◌}
use Rattle.trace_check.proofs.ReadingLemmas.{next_none, next_some, next_taken}
use Rattle.trace_check.proofs.lines.next_reading.Goals as goal

pub returns-then-is_err-clause-reading : goal.returns-then-is_err-clause-reading
returns-then-is_err-clause-reading g c =
    let (same, text) = c.in_default.ensures.none in
    let taken = c.next.ensures.taken in (taken.0, rw (← same) taken.1, tt, taken.3 [] (rw text c.clear.ensures))

pub returns-then-is_empty-clause-reading : goal.returns-then-is_empty-clause-reading
returns-then-is_empty-clause-reading g c =
    let (same, text) = c.in_default.ensures.none in
    let taken = c.next.ensures.taken in
    let part = taken.0 in
    let gathers = taken.3 [] (rw text c.clear.ensures) in (
      part,
      rw (← same) taken.1,
      next_none part _ (sym (c.is_empty.ensures part gathers) ∙ c.if-is_empty.true)
          (next_taken c.next.result part _ (sym c.is_err.ensures.value ∙ c.if-is_err.false) taken.2),
      gathers,
    )

pub returns-clause-reading : goal.returns-clause-reading
returns-clause-reading g c =
    let (same, text) = c.in_default.ensures.none in
    let taken = c.next.ensures.taken in
    let part = taken.0 in
    let gathers = taken.3 [] (rw text c.clear.ensures) in (
      part,
      rw (← same) taken.1,
      rw (c.reading.ensures part gathers) (next_some part _ (sym (c.is_empty.ensures part gathers) ∙ c.if-is_empty.false)
          (next_taken c.next.result part _ (sym c.is_err.ensures.value ∙ c.if-is_err.false) taken.2)),
      gathers,
    )

pub returns-in-Some-clause-reading : goal.returns-in-Some-clause-reading
returns-in-Some-clause-reading g c =
    let read = c.in-Some.ensures.reading in (read.0, read.1, read.2, read.3 [] c.clear.ensures)
