use Rattle.kernel_core.proofs.KernelToWorld.{one_world}
use Rattle.kernel_core.proofs.laws.one_world.Goals as goal

pub returns : goal.returns
returns c = one_world
