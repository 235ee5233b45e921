use Rattle.std.proofs.Common.{◌≡◌, ℕ, drop}
use Rattle.model_core.specs.Machine.{slot_of}
use Rattle.shadow_memory.specs.Left.{left_in}
use Rattle.shadow_memory.proofs.slots.kept_from.Given as goal

abbrev pub invariant-loop-s : goal.invariant-loop-s
invariant-loop-s l = (p : ℕ) → slot_of l.order p ≡ l.slot → left_in l.order (drop l.s-index l.slots) p ≡ left_in l.order l.slots p
