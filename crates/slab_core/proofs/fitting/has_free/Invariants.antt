use Rattle.slab_core.proofs.LargeFreeBlocks.{IsNoneTo}
use Rattle.slab_core.proofs.fitting.has_free.Given as goal

abbrev pub invariant-loop-order : goal.invariant-loop-order
invariant-loop-order l = IsNoneTo l.buddy l.t l.k l.order
