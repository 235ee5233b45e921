-- The kinds of frames in the order in which they are drawn.
use Rattle.std.specs.Prelude.{ℕ}
use Rattle.kernel_core.specs.declared.frames.FrameKind.{FrameKind}

-- the index of a kind in this order
abbrev pub rank_of : FrameKind → ℕ
rank_of FrameKind.Page = 0
rank_of FrameKind.Full = 1
rank_of FrameKind.Partial = 2
rank_of FrameKind.Empty = 3
rank_of FrameKind.Free = 4
rank_of FrameKind.NotHeld = 5
