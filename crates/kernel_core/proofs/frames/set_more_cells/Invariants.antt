use Rattle.std.proofs.Common.{◌≡◌, ℕ, ◌<◌, ◌≤◌, Some, slice_get}
use Rattle.kernel_core.specs.declared.frames.FrameKind.{FrameKind}
use Rattle.kernel_core.proofs.frames.set_more_cells.Given as goal

abbrev pub invariant-loop-k : goal.invariant-loop-k
invariant-loop-k l =
    ((j : ℕ) (cell : FrameKind) → l.begin ≤ j → j < l.k → slice_get l.cells j ≡ Some cell → cell ≡ l.kind)
    × ((j : ℕ) → j < l.begin → slice_get l.cells j ≡ slice_get l.fn.cells j)
    × ((j : ℕ) → l.end ≤ j → slice_get l.cells j ≡ slice_get l.fn.cells j)
