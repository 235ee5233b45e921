use Rattle.kernel_core.proofs.ShownWellFormed.{shown_well_formed}
use Rattle.kernel_core.proofs.laws.shown_well_formed.Goals as goal

pub returns : goal.returns
returns c = shown_well_formed
