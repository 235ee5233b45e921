use Rattle.std.proofs.Common.{◌≡◌, vec_len}
use Rattle.frame_picture.proofs.history.History.new.Given as goal

-- each round of the loop has added one column
abbrev pub invariant-loop-column : goal.invariant-loop-column
invariant-loop-column l = vec_len l.columns ≡ l._column
