use Rattle.std.proofs.Common.{◌≡◌, ℕ, ◌*◌, ◌/◌, ◌^◌, ◌<◌, Some}
use Rattle.buddy_core.specs.Content.{holding_of, taken_of}
use Rattle.buddy_core.proofs.Buddy.block_in.Given as goal

-- for each order j below k, no taken block of order j begins where the aligned block of order j around the frame begins
abbrev pub invariant-loop-k : goal.invariant-loop-k
invariant-loop-k l = (j : ℕ) → j < l.k → taken_of (holding_of l.t l.self) (l.frame / 2 ^ j * 2 ^ j) ≡ Some j → ⊥
