-- The tone of a row of a tenant's band in a column.
use Rattle.std.specs.Prelude.{◌≡◌, ℕ, ◌+◌, ◌-◌, ◌*◌, ◌^◌, ◌<◌, ◌≤◌, ◌==◌, ◌&&◌, min, Bool, if◌then◌else◌, length}
use Rattle.std.specs.Int.{div_ceil}
use Rattle.kernel_core.specs.declared.frames.FrameKind.TheVariants.{NotHeld}
use Rattle.frame_picture.specs.declared.history.Column.{Column}
use Rattle.frame_picture.specs.Kinds.{rank_of}
use Rattle.frame_picture.specs.Rows.{row_cells, kind_count, first_of, end_of}
use Rattle.frame_picture.specs.declared.grid.Grid.{Grid}
use Rattle.frame_picture.specs.declared.drawing.Tone.{Tone}

-- the tone of a row in which nothing is held
abbrev pub not_held : Tone
not_held = record { kind = NotHeld; quarters = 0 }

abbrev pub is_tone : Tone → Tone → Bool
is_tone tone cell = (rank_of cell.kind == rank_of tone.kind) && (cell.quarters == tone.quarters)

-- `kind` is the index of the greatest of the first `kinds` counts; if several counts are greatest, the index of the first of them
pub record IsMostCommon (kinds : ℕ) (count : ℕ → ℕ) (kind : ℕ) : Type 0 where
  pub among : kind < kinds
  pub greatest : (k : ℕ) → k < kinds → count k ≤ count kind
  pub first : (k : ℕ) → k < kind → count k < count kind

-- the number of taken frames: the sum of the counts of the four taken kinds
abbrev pub taken_cells : (ℕ → ℕ) → ℕ
taken_cells count = count 0 + count 1 + count 2 + count 3

-- the number of kinds from which a row's kind is chosen: the four taken kinds if a frame is taken, or else all six
abbrev pub drawn_kinds : ℕ → ℕ
drawn_kinds taken = if taken == 0 then 6 else 4

-- how many quarters of the frames are taken, rounded up
abbrev pub quarters_of : ℕ → ℕ → ℕ
quarters_of taken frames = min (div_ceil (4 * min taken frames) frames) 4

-- The tone has the most common kind of the row's taken frames, or of all its frames if none is taken. Its quarters are the taken
-- share of the row's frames. The more quarters, the darker the drawing.
pub record IsRowTone (column : Column) (t : ℕ) (grid : Grid) (row : ℕ) (tone : Tone) : Type 0 where
  pub most : let cells = row_cells grid.order t (first_of grid row) (end_of grid row) column.sheets.items in
      let count = kind_count cells (end_of grid row - first_of grid row) in
      length cells + 2 ^ 32 < 2 ^ 64 → IsMostCommon (drawn_kinds (taken_cells count)) count (rank_of tone.kind)
  pub share : let cells = row_cells grid.order t (first_of grid row) (end_of grid row) column.sheets.items in
      let count = kind_count cells (end_of grid row - first_of grid row) in
      length cells + 2 ^ 32 < 2 ^ 64 → tone.quarters ≡ quarters_of (taken_cells count) (end_of grid row - first_of grid row)
