-- The heights and y coordinates of the parts of a picture, in pixels. A value above 2^32 - 1 becomes 2^32 - 1.
use Rattle.std.specs.Prelude.{ℕ, ◌+◌, ◌-◌, ◌*◌, ◌/◌, ◌^◌, max, min}
use Rattle.picture_svg.specs.declared.svg.TheConstants.{ABOVE, BELOW, ROWS_HEIGHT, MAX_ROW_HEIGHT}

-- the y coordinate that is this number of pixels below y
abbrev pub lower : ℕ → ℕ → ℕ
lower y pixels = min (y + pixels) (2 ^ 32 - 1)

-- the height of a row if there are this many rows
abbrev pub row_height : ℕ → ℕ
row_height rows = max 1 (min (ROWS_HEIGHT / rows) MAX_ROW_HEIGHT)

-- the height of all rows together
abbrev pub rows_height : ℕ → ℕ
rows_height rows = min (rows * row_height rows) (2 ^ 32 - 1)

-- the height of a band with this number of rows, including its title, its free frames and its axes
abbrev pub band_height : ℕ → ℕ
band_height rows = lower (rows_height rows) (ABOVE + BELOW)
