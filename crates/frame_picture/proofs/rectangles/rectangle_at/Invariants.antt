use Rattle.std.proofs.Common.{◌≡◌, ℕ, ◌<◌, ◌≤◌}
use Rattle.frame_picture.specs.Rectangles.{run_in}
use Rattle.frame_picture.proofs.rectangles.rectangle_at.Given as goal

-- in each column from `column` to `end` - 1, the run at the row has `run` rows
abbrev pub invariant-loop-column : goal.invariant-loop-column
invariant-loop-column l = record {
  wide : l.column < l.end;
  same : (j : ℕ) → l.column ≤ j → j < l.end → run_in l.columns l.tone l.rows l.row j ≡ l.run;
}

abbrev pub decreases-loop-column : goal.decreases-loop-column
decreases-loop-column l = l.column
