use Rattle.std.proofs.Common.{◌≡◌, ℕ, ◌<◌, Some, slice_get}
use Rattle.kernel_core.specs.declared.frames.FrameKind.{FrameKind}
use Rattle.kernel_core.specs.declared.frames.FrameKind.TheVariants.{NotHeld}
use Rattle.kernel_core.proofs.kernel.Kernel.show_frames.Given as goal

abbrev pub invariant-loop-cell : goal.invariant-loop-cell
invariant-loop-cell l = (k : ℕ) (cell : FrameKind) → k < l.cell-index → slice_get l.cells k ≡ Some cell → cell ≡ NotHeld
