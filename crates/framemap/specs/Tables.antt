-- The figures of a history as a table of comma-separated values.
use Rattle.std.specs.Prelude.{ℕ, ◌-◌, ◌+◌, List, [], ◌∷◌, ◌++◌, Some, codes, decimal, flat_map, take}
use Rattle.std.specs.List.{concat, range_with_len}
use Rattle.frame_picture.specs.declared.history.Column.{Column}
use Rattle.frame_picture.specs.declared.history.Figures.{Figures}
use Rattle.frame_picture.specs.declared.history.History.{History}
use Rattle.frame_picture.specs.Histories.{columns_of, drawn_order}
use Rattle.frame_picture.specs.Stacks.{column_figures, refused_in}
use Rattle.framemap.specs.declared.peaks.Peaks.{Peaks}
use Rattle.framemap.specs.Peaks.{most_in_column}

-- the heading for the number of free blocks of an order
abbrev pub free_heading : ℕ → List ℕ
free_heading order = codes ",free" ++ decimal order

-- the row of headings for this number of orders
unfoldable pub heading_text : ℕ → List ℕ
heading_text orders = codes "line,tenant,held,taken,most,refused" ++ (flat_map free_heading (range_with_len 0 orders) ++ codes "\n")

-- a number after a comma
abbrev pub free_cell : ℕ → List ℕ
free_cell blocks = codes "," ++ decimal blocks

-- The row of tenant t after `line` lines: its figures, the most taken frames in the column, and `refused`, the number of its
-- requests that were refused for lack of frames.
unfoldable pub figures_row : ℕ → ℕ → ℕ → Figures → ℕ → ℕ → List ℕ
figures_row orders line t figures most refused = concat (decimal line ∷ codes "," ∷ decimal t ∷ codes "," ∷ decimal figures.held ∷ codes ","
    ∷ decimal figures.taken ∷ codes "," ∷ decimal most ∷ codes "," ∷ decimal refused ∷ flat_map free_cell (take orders figures.free)
    ∷ codes "\n" ∷ [])

-- the row of tenant t for a column
abbrev pub row_text : ℕ → Column → ℕ → ℕ → List ℕ
row_text orders column most t = figures_row orders column.line t (column_figures t (Some column)) most (refused_in t (Some column))

-- the rows of the tenants from `first` to `end` - 1 for the column with this index
abbrev pub column_rows : ℕ → Peaks → ℕ → ℕ → ℕ → Column → List ℕ
column_rows orders peaks first end at column =
    flat_map (λ t. row_text orders column (most_in_column peaks t at) t) (range_with_len first (end - first))

-- the rows of the columns from index `at` on
abbrev pub rows_of_columns : ℕ → Peaks → ℕ → ℕ → ℕ → List Column → List ℕ
rows_of_columns orders peaks first end at [] = []
rows_of_columns orders peaks first end at (column ∷ columns) =
    column_rows orders peaks first end at column ++ rows_of_columns orders peaks first end (at + 1) columns

-- the whole table: the headings, and for each column the rows of its tenants
unfoldable pub table_text : History → Peaks → ℕ → ℕ → List ℕ
table_text history peaks first end = heading_text (drawn_order history + 1)
    ++ rows_of_columns (drawn_order history + 1) peaks first end 0 (columns_of history)
