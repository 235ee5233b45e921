use Rattle.std.proofs.Common.{◌≡◌, ℕ, ◌+◌, ◌*◌, ◌^◌, ◌≤◌}
use Rattle.frame_picture.specs.Stacks.{frames_of_orders}
use Rattle.frame_picture.proofs.stacks.free_from.Given as goal

-- `frames` is the number of frames in the free blocks of the orders so far
abbrev pub invariant-loop-k : goal.invariant-loop-k
invariant-loop-k l = record {
  frames : (n : ℕ) → l.k ≡ l.order + n → l.frames ≡ frames_of_orders l.free l.order n;
  few : l.frames ≤ l.k * 2 ^ 42;
}
