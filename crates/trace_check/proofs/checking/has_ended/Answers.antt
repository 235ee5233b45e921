use Rattle.std.proofs.Common.{Ok, [], refl, sym, ◌∙◌}
use Rattle.streams.specs.declared.feed.Stopped.{Stopped}
use Rattle.trace_check.proofs.ReadingLemmas.{next_none, next_taken}
use Rattle.trace_check.proofs.checking.has_ended.Goals as goal

pub returns-in-Ok-clause-none : goal.returns-in-Ok-clause-none
returns-in-Ok-clause-none g c =
    let given = c.in-Ok.ensures.taken in
    let gathers = given.3 [] c.clear.ensures in
    let is = c.is_empty.ensures given.0 gathers in (
      given.0,
      given.1,
      (is, λ ended. (next_none given.0 _ (sym is ∙ ended) (next_taken {E = Stopped} (Ok c.in-Ok.field-0) given.0 _ refl given.2)).1),
      gathers,
    )

pub returns-in-Err-clause-none : goal.returns-in-Err-clause-none
returns-in-Err-clause-none g c = let given = c.in-Err.ensures.taken in (given.0, given.1, tt, given.3 [] c.clear.ensures)
