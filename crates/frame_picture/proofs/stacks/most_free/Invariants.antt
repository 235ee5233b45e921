use Rattle.frame_picture.specs.Bounds.{IsGreatest}
use Rattle.frame_picture.specs.Stacks.{free_in_column}
use Rattle.frame_picture.proofs.Greatest.{IsValue}
use Rattle.frame_picture.proofs.stacks.most_free.Given as goal

-- `most` is the largest number of free frames of tenant t in any column so far, but at least 1
abbrev pub invariant-loop-column : goal.invariant-loop-column
invariant-loop-column l = IsGreatest (IsValue (free_in_column l.columns l.t 0) l.column) 1 l.most
