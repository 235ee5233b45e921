use Rattle.std.proofs.Common.{◌≡◌, ◌+◌, ◌-◌, drop}
use Rattle.std.specs.List.{prefix_len}
use Rattle.frame_picture.specs.Tones.{is_tone}
use Rattle.frame_picture.proofs.rectangles.run_at.Given as goal

-- all cells from `row` to `at` - 1 have the tone
abbrev pub invariant-loop-at : goal.invariant-loop-at
invariant-loop-at l = prefix_len (is_tone l.tone) (drop l.row l.cells) ≡ (l.at - l.row) + prefix_len (is_tone l.tone) (drop l.at l.cells)
