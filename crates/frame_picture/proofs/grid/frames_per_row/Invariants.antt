use Rattle.std.proofs.Common.{ℕ, ◌^◌, ◌<◌}
use Rattle.std.specs.Int.{div_ceil}
use Rattle.frame_picture.proofs.grid.frames_per_row.Given as goal

-- each power of two so far is too small as the number of frames in a row: it gives more than `most_rows` rows
abbrev pub invariant-loop-power : goal.invariant-loop-power
invariant-loop-power l = (k : ℕ) → k < l.power → l.most_rows < div_ceil l.frames (2 ^ k)
