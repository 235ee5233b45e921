use Rattle.std.proofs.Common.{◌*◌}
use Rattle.slab_core.proofs.FirstClearBit.{AreOnes}
use Rattle.slab_core.proofs.taking.first_clear.Given as goal

abbrev pub invariant-loop-i : goal.invariant-loop-i
invariant-loop-i l = AreOnes l.bytes (64 * l.i)
