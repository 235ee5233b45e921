use Rattle.layout_core.proofs.SlabOrders.{every_size_has_an_order}
use Rattle.layout_core.proofs.laws.every_size_has_an_order.Goals as goal

pub returns : goal.returns
returns c = every_size_has_an_order
