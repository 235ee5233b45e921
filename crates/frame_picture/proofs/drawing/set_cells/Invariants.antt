use Rattle.std.proofs.Common.{◌≡◌, ℕ, ◌<◌, List, Some, slice_get, slice_index_or}
use Rattle.frame_picture.specs.declared.drawing.Tone.{Tone}
use Rattle.frame_picture.specs.declared.history.Column.{Column}
use Rattle.frame_picture.specs.Tones.{not_held, IsRowTone}
use Rattle.frame_picture.proofs.drawing.set_cells.Given as goal

-- the tones of tenant t's rows in the columns so far are stored in `cells`
abbrev pub invariant-loop-at : goal.invariant-loop-at
invariant-loop-at l = (i row : ℕ) (column : Column) (rows : List Tone) → i < l.at → slice_get l.columns i ≡ Some column
    → slice_get l.cells i ≡ Some rows → row < 256 → row < l.grid.rows → IsRowTone column l.t l.grid row (slice_index_or rows row not_held)
