use Rattle.kernel_core.proofs.Stores.{loads_are_own}
use Rattle.kernel_core.proofs.laws.loads_are_own.Goals as goal

pub returns : goal.returns
returns c = loads_are_own
