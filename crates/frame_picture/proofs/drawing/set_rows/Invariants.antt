use Rattle.std.proofs.Common.{◌≡◌, ℕ, ◌<◌, length, slice_index_or}
use Rattle.frame_picture.specs.Tones.{not_held, IsRowTone}
use Rattle.frame_picture.proofs.drawing.set_rows.Given as goal

-- the tones of the grid's rows so far are stored in `rows`
abbrev pub invariant-loop-row : goal.invariant-loop-row
invariant-loop-row l = record {
  long : length l.rows ≡ 256;
  told : (k : ℕ) → k < l.row → k < l.grid.rows → IsRowTone l.column l.t l.grid k (slice_index_or l.rows k not_held);
}
