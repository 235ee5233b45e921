use Rattle.layout_core.proofs.SlabOrders.{objects_apart}
use Rattle.layout_core.proofs.laws.objects_apart.Goals as goal

pub returns : goal.returns
returns c = objects_apart
