use Rattle.kernel_core.proofs.OneHolder.{one_holder}
use Rattle.kernel_core.proofs.laws.one_holder.Goals as goal

pub returns : goal.returns
returns c = one_holder
