use Rattle.std.proofs.Common.{◌≡◌, drop}
use Rattle.shadow_memory.specs.Left.{left_in}
use Rattle.shadow_memory.proofs.slots.left_in.Given as goal

abbrev pub invariant-loop-s : goal.invariant-loop-s
invariant-loop-s l = left_in l.order (drop l.s-index l.slots) l.place ≡ left_in l.order l.slots l.place
