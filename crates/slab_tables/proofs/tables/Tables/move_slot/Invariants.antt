use Rattle.slab_tables.proofs.SlabsMoved.{IsMoving}
use Rattle.slab_tables.proofs.tables.Tables.move_slot.Given as goal

abbrev pub invariant-loop-i : goal.invariant-loop-i
invariant-loop-i l = IsMoving l.initial.self l.self l.from l.to l.i
