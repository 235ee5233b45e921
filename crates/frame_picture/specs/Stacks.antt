-- The values drawn beside and below the rows of a tenant's band: its figures, its free frames by the order of their blocks, and
-- its refusals.
use Rattle.std.specs.Prelude.{ℕ, zero, suc, ◌+◌, ◌-◌, ◌*◌, ◌^◌, List, replicate, slice_get, slice_index, slice_index_or, Option, Some, None}
use Rattle.frame_picture.specs.declared.history.TheConstants.{ORDERS}
use Rattle.frame_picture.specs.declared.history.Column.{Column}
use Rattle.frame_picture.specs.declared.history.Figures.{Figures}

-- the figures of a tenant that holds no frame
abbrev pub empty_figures : Figures
empty_figures = record { held = 0; taken = 0; free = replicate ORDERS 0 }

-- the figures of tenant t in a column; they are `empty_figures` if there is no column, or if the column has none for tenant t
abbrev pub column_figures : ℕ → Option Column → Figures
column_figures t None = empty_figures
column_figures t (Some column) = slice_index_or column.figures.items t empty_figures

-- the figures of tenant t in column n; they are `empty_figures` if there is no column n
abbrev pub figures_in_column : List Column → ℕ → ℕ → Figures
figures_in_column columns t n = column_figures t (slice_get columns n)

-- the number of tenant t's taken frames in column n
abbrev pub taken_in_column : List Column → ℕ → ℕ → ℕ
taken_in_column columns t n = (figures_in_column columns t n).taken

-- the number of frames in the free blocks of n orders from k on; `free` has the number of free blocks of each order
abbrev pub frames_of_orders : List ℕ → ℕ → ℕ → ℕ
frames_of_orders free k zero = 0
frames_of_orders free k (suc n) = frames_of_orders free k n + slice_index free (k + n) * 2 ^ (k + n)

-- the number of frames in the free blocks of order k and above; the orders are those below ORDERS
abbrev pub free_in : ℕ → Option Figures → ℕ
free_in k None = 0
free_in k (Some figures) = frames_of_orders figures.free k (ORDERS - k)

abbrev pub free_of : ℕ → ℕ → Option Column → ℕ
free_of t k None = 0
free_of t k (Some column) = free_in k (slice_get column.figures.items t)

-- the number of frames in tenant t's free blocks of order k and above in column n, or 0 if there is no column n
abbrev pub free_in_column : List Column → ℕ → ℕ → ℕ → ℕ
free_in_column columns t k n = free_of t k (slice_get columns n)

-- `free_in_column` of the column before column n, or 0 if n is the first column
abbrev pub free_before : List Column → ℕ → ℕ → ℕ → ℕ
free_before columns t k zero = 0
free_before columns t k (suc n) = free_in_column columns t k n

-- the number of requests of tenant t that were refused for lack of frames up to the last line of a column
abbrev pub refused_in : ℕ → Option Column → ℕ
refused_in t None = 0
refused_in t (Some column) = slice_index_or column.refused.items t 0

abbrev pub refused_until : List Column → ℕ → ℕ → ℕ
refused_until columns t n = refused_in t (slice_get columns n)

abbrev pub refused_before : List Column → ℕ → ℕ → ℕ
refused_before columns t zero = 0
refused_before columns t (suc n) = refused_until columns t n
