use Rattle.std.proofs.Common.{ℕ, ◌*◌, ◌^◌, ◌<◌}
use Rattle.frame_picture.proofs.grid.Grid.slots_between.Given as goal

-- each power of two so far is too small as the number of slots from one mark to the next: it gives more than `most_marks` marks
abbrev pub invariant-loop-power : goal.invariant-loop-power
invariant-loop-power l = (k : ℕ) → k < l.power → l.most_marks * (2 ^ k * 2 ^ l.self.order) < l.self.frames
