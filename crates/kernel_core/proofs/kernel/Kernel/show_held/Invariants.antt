use Rattle.std.proofs.Common.{◌≡◌, ℕ, ◌+◌, ◌*◌, ◌^◌, ◌<◌, ◌≤◌, ◌-◌, Some, slice_get}
use Rattle.model_core.specs.Machine.{Machine}
use Rattle.buddy_core.specs.Content.{holding_of, taken_of}
use Rattle.kernel_core.specs.Frames.{IsFrame, AreEndedBefore}
use Rattle.kernel_core.specs.Shows.{ShowsMachine}
use Rattle.kernel_core.specs.declared.frames.FrameKind.{FrameKind}
use Rattle.kernel_core.specs.declared.frames.FrameKind.TheVariants.{Free}
use Rattle.kernel_core.proofs.kernel.Kernel.show_held.Given as goal

abbrev pub invariant-runs : goal.invariant-runs
invariant-runs l = record {
  ended : AreEndedBefore (taken_of (holding_of l.t l.self.buddy)) (l.slot * 2 ^ l.self.order + l.at);
  told : (m : Machine) (k : ℕ) (cell : FrameKind) → ShowsMachine l.self l.t m → k < l.most → k < l.at
      → slice_get l.cells k ≡ Some cell → IsFrame l.self.order m (l.slot * 2 ^ l.self.order + k) cell;
  free : (k : ℕ) (cell : FrameKind) → l.at ≤ k → k < l.most → slice_get l.cells k ≡ Some cell → cell ≡ Free;
}

abbrev pub decreases-runs : goal.decreases-runs
decreases-runs l = l.most - l.at
