use Rattle.model_core.proofs.Layouts.{layouts_fit}
use Rattle.layout_core.proofs.layout.Layout.laws.Goals as goal

pub returns-clause-fits : goal.returns-clause-fits
returns-clause-fits c = rw (← c.self.view_is) (layouts_fit _ _ c.self.invariant.accepted_size c.self.invariant.accepted_align)
