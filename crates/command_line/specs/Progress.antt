-- The progress of a run in a file, and how it is printed.
use Rattle.std.specs.Prelude.{ℕ, ◌*◌, ◌/◌, List, ◌++◌, codes, decimal, min}

-- the share of `bytes` in a file of `size` bytes, in whole percent, at most 100
abbrev pub percent_of : (bytes size : ℕ) → ℕ
percent_of bytes size = min (100 * bytes / size) 100

-- the text of the progress, as it is printed
abbrev pub position_text : (lines bytes size : ℕ) → List ℕ
position_text lines bytes size = decimal lines ++ codes " lines, " ++ decimal (percent_of bytes size) ++ codes " %"
