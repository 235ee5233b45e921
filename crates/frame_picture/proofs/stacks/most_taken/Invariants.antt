use Rattle.frame_picture.specs.Bounds.{IsGreatest}
use Rattle.frame_picture.specs.Stacks.{taken_in_column}
use Rattle.frame_picture.proofs.Greatest.{IsValue}
use Rattle.frame_picture.proofs.stacks.most_taken.Given as goal

-- `most` is the largest number of taken frames of tenant t in any column so far, or 0 if there is no column so far
abbrev pub invariant-loop-column : goal.invariant-loop-column
invariant-loop-column l = IsGreatest (IsValue (taken_in_column l.columns l.t) l.column) 0 l.most
