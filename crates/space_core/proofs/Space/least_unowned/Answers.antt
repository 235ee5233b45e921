use Rattle.std.proofs.Common.{position, ap, ◌∙◌}
use Rattle.space_core.proofs.Vacancies.{least_none}
use Rattle.space_core.proofs.Space.least_unowned.Goals as goal

pub returns-clause-value : goal.returns-clause-value
returns-clause-value c =
    rw (← c.self.view_is) (c.least_unowned.ensures.value ∙ ap (position (λ b. b)) c.self.invariant.2.superblocks ∙ least_none c.self.inside.owners.items)
