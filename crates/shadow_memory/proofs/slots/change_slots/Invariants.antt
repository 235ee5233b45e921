use Rattle.std.proofs.Common.{◌≡◌, ℕ, ◌<◌, ◌≤◌, get_or}
use Rattle.shadow_memory.specs.Left.{LeftSlot}
use Rattle.shadow_memory.specs.Inside.{within}
use Rattle.shadow_memory.proofs.StepsByPlace.{IsStepped}
use Rattle.shadow_memory.proofs.slots.change_slots.Given as goal

abbrev pub invariant-loop-slot : goal.invariant-loop-slot
invariant-loop-slot g l = record {
  done : (k : ℕ) (d : LeftSlot) → k < l.slot-index
      → IsStepped l.order (within l.begin l.end (g.C.Change.step l.change)) (get_or l.fn.slots k d) (get_or l.slots k d);
  rest : (k : ℕ) (d : LeftSlot) → l.slot-index ≤ k → get_or l.slots k d ≡ get_or l.fn.slots k d;
}
