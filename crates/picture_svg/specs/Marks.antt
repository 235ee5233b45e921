-- The text below the rows of a band: a mark for each column in which a request of the tenant was refused for lack of frames, and
-- the tenant's free frames by the order of their block.
use Rattle.std.specs.Prelude.{ℕ, ◌+◌, ◌-◌, ◌*◌, ◌/◌, ◌^◌, ◌==◌, min, if◌then◌else◌, List, [], ◌∷◌, ◌++◌, codes, decimal, flat_map, length}
use Rattle.std.specs.List.{concat, range_with_len}
use Rattle.frame_picture.specs.declared.history.Column.{Column}
use Rattle.frame_picture.specs.Stacks.{free_before, free_in_column, refused_before, refused_until}
use Rattle.picture_svg.specs.declared.svg.TheConstants.{LEFT, REFUSALS, STACK, WIDTH}
use Rattle.picture_svg.specs.Sizes.{lower}
use Rattle.picture_svg.specs.Texts.{ratio_text}

-- a number, capped at the greatest number of 64 bits
abbrev pub capped : ℕ → ℕ
capped n = min n (2 ^ 64 - 1)

-- the distance of the middle of a column from the left edge of the first column, if there are n columns
abbrev pub middle_of : ℕ → ℕ → ℕ
middle_of column n = min (capped (capped (capped (column * 2) + 1) * (WIDTH / 2)) / n) WIDTH

-- the mark of a column in the path of marks; it is empty if no request of tenant t was refused for lack of frames in this column
unfoldable pub refusal_mark : List Column → ℕ → ℕ → ℕ → List ℕ
refusal_mark columns t y column = if refused_until columns t column - refused_before columns t column == 0 then []
    else codes "M"
    ++ (decimal (lower LEFT (middle_of column (length columns)))
    ++ (codes " " ++ (decimal y ++ (codes "v" ++ decimal REFUSALS))))

-- the word `refused` to the left of the marks, moved down by `gap` pixels, and the beginning of the path of marks
unfoldable pub refusals_begin : ℕ → ℕ → List ℕ
refusals_begin y gap = concat (codes "<text class=\"right\" x=\"" ∷ decimal (LEFT - 9) ∷ codes "\" y=\""
    ∷ decimal (lower (lower y REFUSALS) gap)
    ∷ codes "\">refused</text>\n<path class=\"refused\" d=\"" ∷ [])

-- the word `refused`, and the path with the marks of all columns
unfoldable pub refusals_text : List Column → ℕ → ℕ → ℕ → List ℕ
refusals_text columns t y gap =
    concat (refusals_begin y gap ∷ flat_map (refusal_mark columns t y) (range_with_len 0 (length columns)) ∷ codes "\"/>\n"
    ∷ [])

-- The step of an outline at the beginning of a column: the outline rises or falls to the number of free frames in blocks of order
-- k and above. The text is empty if the previous column has the same number.
unfoldable pub turn_text : List Column → ℕ → ℕ → ℕ → List ℕ
turn_text columns t k column = if free_in_column columns t k column == free_before columns t k column then []
    else codes "H" ++ (decimal column ++ (codes "V" ++ decimal (free_in_column columns t k column)))

-- the CSS class of free blocks whose order is `depth` below the order of a superblock
abbrev pub depth_class : ℕ → List ℕ
depth_class depth = codes "d" ++ decimal (min depth 8)

-- The layer of order k in a stack: the outline of tenant t's free frames in blocks of order k and above. The height of the stack
-- represents `most` frames, and a slot has 2 ^ order frames.
unfoldable pub layer_text : List Column → ℕ → ℕ → ℕ → ℕ → ℕ → List ℕ
layer_text columns t order foot most k = concat (codes "<path class=\"cells " ∷ depth_class (order - k)
    ∷ codes "\" transform=\"translate(" ∷ decimal LEFT
    ∷ codes " " ∷ decimal foot ∷ codes ") scale(" ∷ ratio_text WIDTH (length columns) ∷ codes " -" ∷ ratio_text STACK most
    ∷ codes ")\" d=\"M0 0"
    ∷ flat_map (turn_text columns t k) (range_with_len 0 (length columns)) ∷ codes "H" ∷ decimal (length columns)
    ∷ codes "V0z\"/>\n" ∷ [])

-- the border of a stack, and the numbers of frames at its top and foot: `most` and 0
unfoldable pub scale_text : ℕ → ℕ → ℕ → List ℕ
scale_text top foot most = concat (codes "<rect class=\"frame\" x=\"" ∷ decimal LEFT ∷ codes "\" y=\"" ∷ decimal top
    ∷ codes "\" width=\"" ∷ decimal WIDTH
    ∷ codes "\" height=\"" ∷ decimal STACK ∷ codes "\"/>\n" ∷ codes "<text class=\"right\" x=\"" ∷ decimal (LEFT - 9)
    ∷ codes "\" y=\"" ∷ decimal (lower top 9)
    ∷ codes "\">" ∷ decimal most ∷ codes "</text>\n" ∷ codes "<text class=\"right\" x=\"" ∷ decimal (LEFT - 9) ∷ codes "\" y=\""
    ∷ decimal foot
    ∷ codes "\">0</text>\n" ∷ [])

-- the stack of tenant t's free frames, upwards from the y coordinate `foot`: its heading, its layers and its scale
unfoldable pub stack_text : List Column → ℕ → ℕ → ℕ → ℕ → List ℕ
stack_text columns t order foot most = concat (codes "<text x=\"" ∷ decimal LEFT ∷ codes "\" y=\"" ∷ decimal (foot - STACK - 5)
    ∷ codes "\">free frames, at most "
    ∷ decimal most ∷ codes "</text>\n" ∷ flat_map (layer_text columns t order foot most) (range_with_len 0 (order + 1))
    ∷ scale_text (foot - STACK) foot most ∷ [])
