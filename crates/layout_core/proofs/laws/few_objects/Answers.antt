use Rattle.layout_core.proofs.SlabOrders.{few_objects}
use Rattle.layout_core.proofs.laws.few_objects.Goals as goal

pub returns : goal.returns
returns c = few_objects
