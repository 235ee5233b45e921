-- Rectangles of cells of one tone. The run of a tone at a row of a column is the number of consecutive rows that have the tone,
-- counted upwards from this row. No run begins at a row if the row below it has the tone too. A rectangle ends before column c
-- if its last column is c - 1.
use Rattle.std.specs.Prelude.{◌≡◌, ◌≢◌, ℕ, zero, suc, false, ◌+◌, ◌-◌, ◌<◌, ◌≤◌, ◌⊎◌, ◌↔◌, Bool, IsTrue, if◌then◌else◌, All, Any, List, [], Some, length, take, drop, slice_get, slice_index_or}
use Rattle.std.specs.List.{prefix_len}
use Rattle.frame_picture.specs.Tones.{is_tone, not_held}
use Rattle.frame_picture.specs.declared.drawing.Tone.{Tone}
use Rattle.frame_picture.specs.declared.rectangles.Rectangle.{Rectangle}

-- the row below this row has the tone; row 0 has no row below it
abbrev pub goes_on : Tone → List Tone → ℕ → Bool
goes_on tone cells zero = false
goes_on tone cells (suc below) = is_tone tone (slice_index_or cells below not_held)

-- the run of a tone that begins at a row, or 0 if none begins there
abbrev pub run_at : Tone → List Tone → ℕ → ℕ
run_at tone cells row = if goes_on tone cells row then 0 else prefix_len (is_tone tone) (drop row cells)

-- the run of the tone that begins at a row in a column, if only the first `rows` rows of the column are shown
abbrev pub run_in : List (List Tone) → Tone → ℕ → ℕ → ℕ → ℕ
run_in columns tone rows row column = run_at tone (take rows (slice_index_or columns column [])) row

-- Rectangle r ends before column `end`. At its lowest row, each of its columns has a run as high as r, and the columns to the
-- left and to the right of r do not. `columns` is the number of all columns.
pub record IsRectangle (runs : ℕ → ℕ) (columns end : ℕ) (r : Rectangle) : Type 0 where
  pub ends : r.column + r.columns ≡ end
  pub wide : 0 < r.columns
  pub high : 0 < r.rows
  pub same : (j : ℕ) → r.column ≤ j → j < end → runs j ≡ r.rows
  pub left : 0 < r.column → runs (r.column - 1) ≢ r.rows
  pub right : end < columns → runs end ≢ r.rows

-- no rectangle that begins at this row ends before column `end`: no run begins at the row in column end - 1, or an equal run
-- begins at the row in column `end`
abbrev pub GoesOn : (ℕ → ℕ) → ℕ → ℕ → Type 0
GoesOn runs columns end = (runs (end - 1) ≡ 0) ⊎ ((end < columns) × (runs end ≡ runs (end - 1)))

-- Each of these rectangles is a rectangle of the tone, begins in a row below `height`, and ends before column `to` or an earlier
-- one. They include all rectangles of these rows that end before one of the columns from + 1 to `to`.
pub record AreRectangles (columns : List (List Tone)) (tone : Tone) (rows height from to : ℕ) (rectangles : List Rectangle)
    : Type 0 where
  pub each : All (λ r. (r.row < height) × (r.column + r.columns ≤ to)
      × IsRectangle (run_in columns tone rows r.row) (length columns) (r.column + r.columns) r) rectangles
  pub all : (end row : ℕ) → from < end → end ≤ to → row < height → GoesOn (run_in columns tone rows row) (length columns) end
      ⊎ Any (λ r. (r.row ≡ row) × (r.column + r.columns ≡ end)) rectangles

-- the rectangle contains this cell
pub record HasCell (column row : ℕ) (r : Rectangle) : Type 0 where
  pub left : r.column ≤ column
  pub right : column < r.column + r.columns
  pub lower : r.row ≤ row
  pub upper : row < r.row + r.rows

-- in the first `rows` rows, which are shown, the rectangles contain exactly the cells of the tone
abbrev pub CoverTone : List (List Tone) → Tone → ℕ → List Rectangle → Type 0
CoverTone columns tone rows rectangles = (column row : ℕ) (cells : List Tone) (cell : Tone)
    → slice_get columns column ≡ Some cells → slice_get cells row ≡ Some cell → row < rows
    → (IsTrue (is_tone tone cell) ↔ Any (HasCell column row) rectangles)
