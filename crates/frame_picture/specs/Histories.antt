-- A history as its callers see it, and the lines that have columns.
use Rattle.std.specs.Prelude.{◌≡◌, ℕ, ◌+◌, ◌-◌, ◌*◌, ◌^◌, ◌<◌, ◌≤◌, min, List, length, take, vec_len, Some, slice_get}
use Rattle.frame_picture.specs.declared.history.Column.{Column}
use Rattle.frame_picture.specs.declared.history.History.{History}

-- the order of a superblock, which has 2 ^ order frames
abbrev pub drawn_order : History → ℕ
drawn_order h = h.order

-- the number of superblocks of the machine
abbrev pub superblocks_of : History → ℕ
superblocks_of h = h.superblocks

abbrev pub tenants_of : History → ℕ
tenants_of h = h.tenants

-- the columns in use
abbrev pub columns_of : History → List Column
columns_of h = take h.kept h.columns.items

-- the largest number of columns
abbrev pub most_columns_of : History → ℕ
most_columns_of h = vec_len h.columns

-- the number of lines per column
abbrev pub width_of : History → ℕ
width_of h = h.width

-- the number of lines that were run
abbrev pub line_count : History → ℕ
line_count h = h.lines

-- for each tenant, the number of its requests that were refused for lack of frames
abbrev pub refusals_of : History → List ℕ
refusals_of h = h.refused.items

-- both histories have the same sizes of the machine and the same largest number of columns
pub record SameShape (old new : History) : Type 0 where
  pub order : drawn_order new ≡ drawn_order old
  pub superblocks : superblocks_of new ≡ superblocks_of old
  pub tenants : tenants_of new ≡ tenants_of old
  pub most_columns : most_columns_of new ≡ most_columns_of old

-- in `old` all columns are in use, and in `new` a column has twice as many lines, but at most 2^32 - 1
abbrev pub Doubles : History → History → Type 0
Doubles old new = (length (columns_of old) ≡ most_columns_of old) × (width_of new ≡ min (2 * width_of old) (2 ^ 32 - 1))

-- After `lines` lines, each line whose number is a multiple of the width has a column, and no other line has one.
pub record IsEven (columns : List Column) (width lines : ℕ) : Type 0 where
  pub some : length columns * width ≤ lines
  pub all : lines < (length columns + 1) * width
  pub each : (i : ℕ) (column : Column) → slice_get columns i ≡ Some column → column.line ≡ (i + 1) * width

-- At the end, after `lines` lines, each line whose number is a multiple of the width has a column, and so does the last line. No
-- other line has one.
pub record IsComplete (columns : List Column) (width lines : ℕ) : Type 0 where
  pub all : lines ≤ length columns * width
  pub few : length columns * width < lines + width
  pub each : (i : ℕ) (column : Column) → slice_get columns i ≡ Some column → column.line ≡ min ((i + 1) * width) lines
