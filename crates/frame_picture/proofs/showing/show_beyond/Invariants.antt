use Rattle.std.proofs.Common.{◌≡◌, ℕ, ◌+◌, ◌*◌, ◌^◌, ◌<◌, ◌≤◌, Some, slice_get}
use Rattle.model_core.specs.Machine.{Machine}
use Rattle.kernel_core.specs.Frames.{IsFrame}
use Rattle.kernel_core.specs.Shows.{ShowsMachine}
use Rattle.kernel_core.specs.declared.frames.FrameKind.{FrameKind}
use Rattle.frame_picture.proofs.showing.show_beyond.Given as goal

-- the cells from `from` to k - 1 have the kinds of their frames, and the cells before `from` are unchanged
abbrev pub invariant-loop-k : goal.invariant-loop-k
invariant-loop-k l = record {
  kept : (j : ℕ) → j < l.from → slice_get l.cells j ≡ slice_get l.fn.cells j;
  told : (m : Machine) (j : ℕ) (cell : FrameKind) → ShowsMachine l.kernel l.t m → l.from ≤ j → j < l.k → l.slot * 2 ^ l.kernel.order + j < 2 ^ 32
      → slice_get l.cells j ≡ Some cell → IsFrame l.kernel.order m (l.slot * 2 ^ l.kernel.order + j) cell;
}
