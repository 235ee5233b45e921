-- The frames of a row of a tenant's band in a column, and how many of them have each kind.
use Rattle.std.specs.Prelude.{ℕ, ◌+◌, ◌-◌, ◌*◌, ◌^◌, ◌==◌, min, if◌then◌else◌, List, [], ◌∷◌, ◌++◌, Option, Some, None, length, count_by, slice_range}
use Rattle.model_core.specs.declared.owner.Owner.{Owner}
use Rattle.kernel_core.specs.declared.frames.FrameKind.{FrameKind}
use Rattle.frame_picture.specs.declared.history.Sheet.{Sheet}
use Rattle.frame_picture.specs.Kinds.{rank_of}
use Rattle.frame_picture.specs.declared.grid.Grid.{Grid}

-- the cells of the frames from first to end - 1, if `cells` are those of a slot that begins at frame base
abbrev pub cells_between : ℕ → ℕ → ℕ → List FrameKind → List FrameKind
cells_between base first end cells = slice_range cells (min (length cells) (first - base)) (min (length cells) (end - base))

-- the cells of tenant t's frames from first to end - 1, if a superblock of 2 ^ order frames has this owner and these cells
abbrev pub owned_cells : ℕ → ℕ → ℕ → ℕ → Option Owner → List FrameKind → List FrameKind
owned_cells order t first end None cells = []
owned_cells order t first end (Some owner) cells =
    if owner.tenant == t then cells_between (owner.slot * 2 ^ order) first end cells else []

abbrev pub cells_in : ℕ → ℕ → ℕ → ℕ → Sheet → List FrameKind
cells_in order t first end sheet = owned_cells order t first end sheet.owner sheet.cells.items

-- the cells of tenant t's frames from first to end - 1, in the order of superblocks
abbrev pub row_cells : ℕ → ℕ → ℕ → ℕ → List Sheet → List FrameKind
row_cells order t first end [] = []
row_cells order t first end (sheet ∷ sheets) = cells_in order t first end sheet ++ row_cells order t first end sheets

-- how many of `frames` frames have the kind of rank k; frames without a cell count as not held
abbrev pub kind_count : List FrameKind → ℕ → ℕ → ℕ
kind_count cells frames k =
    count_by (λ cell. rank_of cell == k) cells + (if k == rank_of FrameKind.NotHeld then frames - length cells else 0)

-- The number of the first frame of a row, and the number of its last frame plus 1.

abbrev pub first_of : Grid → ℕ → ℕ
first_of grid row = row * grid.frames_per_row

abbrev pub end_of : Grid → ℕ → ℕ
end_of grid row = min (row * grid.frames_per_row + grid.frames_per_row) grid.frames
