use Rattle.model_core.proofs.Layouts.{layouts_fit}
use Rattle.layout_core.proofs.laws.layouts_fit.Goals as goal

pub returns : goal.returns
returns c = layouts_fit
