use Rattle.std.proofs.Common.{◌≡◌, ◌+◌, drop}
use Rattle.std.specs.Prelude.{count_by, ◌==◌}
use Rattle.arrayvec.specs.ArrayVec.{array_vec_len}
use Rattle.trace_check.specs.Forms.{form_at}
use Rattle.trace_check.proofs.FormLoop.{with_front}
use Rattle.trace_check.proofs.form.form_at.Given as goal

-- The numbers so far, put in front of those that the rest of the form matches, are the numbers of the whole match. The numbers so
-- far and the `#`s in the rest of the form are `N` together.
abbrev pub invariant-loop-mark : goal.invariant-loop-mark
invariant-loop-mark g l = record {
  all : with_front l.numbers.items (form_at (drop l.mark-index l.form) l.rest) ≡ form_at l.form l.text;
  marks : array_vec_len l.numbers + count_by (λ b. b == 35) (drop l.mark-index l.form) ≡ g.row.N;
}
