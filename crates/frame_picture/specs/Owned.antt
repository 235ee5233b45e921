-- The sheets that are listed for a tenant, and their cells.
use Rattle.std.specs.Prelude.{◌≡◌, ℕ, ◌<◌, ◌≤◌, List, [], ◌∷◌, ◌++◌, Option, Some, None, length, take, slice_get, slice_index}
use Rattle.kernel_core.specs.declared.frames.FrameKind.{FrameKind}
use Rattle.frame_picture.specs.declared.history.Sheet.{Sheet}
use Rattle.frame_picture.specs.declared.owned.OwnSheets.{OwnSheets}
use Rattle.frame_picture.specs.Rows.{cells_in, row_cells}

-- the cells of tenant t's frames from first to end - 1 in a sheet, or no cells if there is no sheet
abbrev pub cells_of : ℕ → ℕ → ℕ → ℕ → Option Sheet → List FrameKind
cells_of order t first end None = []
cells_of order t first end (Some sheet) = cells_in order t first end sheet

-- the cells of tenant t's frames from first to end - 1 in the sheets with these indices, one sheet after another
abbrev pub listed_cells : ℕ → ℕ → ℕ → ℕ → List Sheet → List ℕ → List FrameKind
listed_cells order t first end sheets [] = []
listed_cells order t first end sheets (i ∷ listed) = cells_of order t first end (slice_get sheets i) ++ listed_cells order t first end sheets listed

-- The listed indices are indices of sheets. In the listed sheets, tenant t has the same cells in the same order as in all sheets
-- before index `rest`.
pub record IsOwn (t : ℕ) (sheets : List Sheet) (own : OwnSheets) : Type 0 where
  pub rest : own.rest ≤ length sheets
  pub few : own.len ≤ length own.listed
  pub inside : (j : ℕ) → j < own.len → slice_index own.listed j < length sheets
  pub cells : (order first end : ℕ) → row_cells order t first end (take own.rest sheets)
      ≡ listed_cells order t first end sheets (take own.len own.listed)
