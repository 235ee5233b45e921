use Rattle.std.proofs.Common.{◌≡◌, ◌-◌}
use Rattle.arrayvec.specs.ArrayVec.{array_vec_len}
use Rattle.trace_check.specs.Tables.{rows_from}
use Rattle.trace_check.proofs.RowLoop.{with_rows}
use Rattle.trace_check.proofs.rows.rows_at.Given as goal

-- the rows so far, followed by the rows that the rest of the text has, are the rows of the whole text
abbrev pub invariant-loop-index : goal.invariant-loop-index
invariant-loop-index g l = record {
  all : with_rows l.rows.items (rows_from g.R.Row.row_at l.front (g.row.N - l.index) l.index l.rest) ≡ rows_from g.R.Row.row_at l.front g.row.N 0 l.text;
  count : array_vec_len l.rows ≡ l.index;
}
