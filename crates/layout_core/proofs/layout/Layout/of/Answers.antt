use Rattle.std.proofs.Common.{rules}
use Rattle.layout_core.proofs.ObjectsFit.{is_cut}
use Rattle.layout_core.proofs.layout.Layout.of.Goals as goal

pub invariant_of-result : goal.invariant_of-result
invariant_of-result c =
    rw c.reciprocal_of.ensures
    (is_cut _ _ _ _ _ (search rules) (search rules) c.chunk_of-chunk.ensures c.slab_order-order.ensures.order c.usable_bytes-usable.ensures)
