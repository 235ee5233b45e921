use Rattle.kernel_core.proofs.Stores.{stores_are_writes}
use Rattle.kernel_core.proofs.laws.stores_are_writes.Goals as goal

pub returns : goal.returns
returns c = stores_are_writes
