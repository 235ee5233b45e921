-- The SVG texts of the values and parts of a picture.
use Rattle.std.specs.Prelude.{ℕ, ◌+◌, ◌-◌, ◌*◌, ◌/◌, ◌%◌, ◌^◌, ◌==◌, nat_lt, false, if◌then◌else◌, List, [], ◌∷◌, ◌++◌, Option, Some, None, Result, OnOk, codes, decimal, flat_map}
use Rattle.std.specs.Fmt.{format_spec, padded_integral}
use Rattle.std.specs.Io.KnownBytes.{Appends}
use Rattle.std.specs.List.{concat}
use Rattle.frame_picture.specs.declared.rectangles.Rectangle.{Rectangle}
use Rattle.picture_svg.specs.declared.svg.TheConstants.{ABOVE, LEFT, STYLE, WHOLE_WIDTH, WIDTH}
use Rattle.picture_svg.specs.Sizes.{lower}

-- the bytes that a writer has taken, if they are known, have grown by a text with this property
pub record AppendsText (old new : Option (List ℕ)) (IsText : List ℕ → Type 0) : Type 0 where
  pub text : List ℕ
  pub appended : Appends old new text
  pub is : IsText text

-- if the result of a write is `Ok`, the bytes that the writer has taken have grown by a text with this property
abbrev pub WritesText : {E : Type 0} → Result (Unit {0}) E → Option (List ℕ) → Option (List ℕ) → (List ℕ → Type 0) → Type 0
WritesText result old new IsText = OnOk result (AppendsText old new IsText)

-- a number of hundred-millionths, as a decimal with eight digits after the point
abbrev pub parts_text : ℕ → List ℕ
parts_text parts = decimal (parts / 10 ^ 8)
    ++ (codes "." ++ padded_integral (format_spec 32 0 4 8 (2 ^ 64 - 1)) false [] (decimal (parts % 10 ^ 8)))

-- n divided by d, rounded down to eight digits after the point, or 0 if d is 0
abbrev pub ratio_text : ℕ → ℕ → List ℕ
ratio_text n d = parts_text (n * 10 ^ 8 / d)

-- the beginning of a picture of this height
unfoldable pub opening_text : ℕ → List ℕ
opening_text height = concat (codes "<svg xmlns=\"http://www.w3.org/2000/svg\" viewBox=\"0 0 " ∷ decimal WHOLE_WIDTH ∷ codes " "
    ∷ decimal height
    ∷ codes "\" width=\"" ∷ decimal WHOLE_WIDTH ∷ codes "\" height=\"" ∷ decimal height ∷ codes "\">\n" ∷ STYLE.now
    ∷ codes "<rect width=\"" ∷ decimal WHOLE_WIDTH ∷ codes "\" height=\"" ∷ decimal height ∷ codes "\" fill=\"#fff\"/>\n" ∷ [])

-- a byte of a name in SVG text: `&`, `<` and `>` are escaped, and a byte below 32 becomes a question mark
abbrev pub escaped : ℕ → List ℕ
escaped byte = if byte == 38 then codes "&amp;" else if byte == 60 then codes "&lt;" else if byte == 62 then codes "&gt;"
    else if nat_lt byte 32 then codes "?" else byte ∷ []

-- the name of the trace, or `a trace` without a name
abbrev pub name_text : Option (List ℕ) → List ℕ
name_text None = codes "a trace"
name_text (Some name) = flat_map escaped name

-- the title of a picture, and the line below it: the number of superblocks, the frames of each superblock, and the lines of each
-- column
unfoldable pub title_text : ℕ → Option (List ℕ) → ℕ → ℕ → ℕ → List ℕ
title_text lines name superblocks frames width = concat (codes "<text class=\"head\" x=\"" ∷ decimal LEFT
    ∷ codes "\" y=\"30\">Frames over " ∷ decimal lines
    ∷ codes " lines of " ∷ name_text name ∷ codes "</text>\n<text x=\"" ∷ decimal LEFT ∷ codes "\" y=\"50\">Superblocks: "
    ∷ decimal superblocks
    ∷ codes ", of " ∷ decimal frames ∷ codes " frames each. Lines to a column: " ∷ decimal width
    ∷ codes "; it shows the machine after the last of them.</text>\n" ∷ [])

-- the note at the right above the rows of a band; it is empty if a row has only one frame
unfoldable pub row_note : ℕ → ℕ → List ℕ
row_note frames y = if nat_lt 1 frames then concat (codes "<text class=\"right\" x=\"" ∷ decimal (LEFT + WIDTH)
    ∷ codes "\" y=\"" ∷ decimal y
    ∷ codes "\">a row is " ∷ decimal frames ∷ codes " frames: coloured as most taken ones, darker where more are taken</text>\n"
    ∷ []) else []

-- the title of the band of tenant t, and the note beside it
unfoldable pub tenant_title : ℕ → ℕ → ℕ → List ℕ
tenant_title t frames_per_row top = let y = lower top (ABOVE - 8) in
    concat (codes "<text class=\"tenant\" x=\"" ∷ decimal LEFT ∷ codes "\" y=\"" ∷ decimal y ∷ codes "\">Tenant " ∷ decimal t
    ∷ codes "</text>\n"
    ∷ row_note frames_per_row y ∷ [])

-- the tenant's figures beside the title: its taken and held frames at the end, the largest number of its taken frames in any
-- column, and the number of its requests that were refused for lack of frames
unfoldable pub figures_text : ℕ → ℕ → ℕ → ℕ → ℕ → List ℕ
figures_text taken held most refused top =
    concat (codes "<text x=\"" ∷ decimal (LEFT + 90) ∷ codes "\" y=\"" ∷ decimal (lower top (ABOVE - 8))
    ∷ codes "\">at the end " ∷ decimal taken
    ∷ codes " of " ∷ decimal held ∷ codes " frames taken; at most " ∷ decimal most
    ∷ codes " taken; refused for want of frames: " ∷ decimal refused
    ∷ codes "</text>\n" ∷ [])

-- a rectangle of cells in a path: one unit to the right is a column, and one unit upwards is a row
unfoldable pub rectangle_path : Rectangle → List ℕ
rectangle_path r = concat (codes "M" ∷ decimal r.column ∷ codes " " ∷ decimal r.row ∷ codes "h" ∷ decimal r.columns ∷ codes "v"
    ∷ decimal r.rows
    ∷ codes "h-" ∷ decimal r.columns ∷ codes "z" ∷ [])

-- a path element with the class of a kind and the class of a shade
unfoldable pub path_text : List ℕ → List ℕ → List ℕ → List ℕ
path_text kind shade path = concat (codes "<path class=\"" ∷ kind ∷ shade ∷ codes "\" d=\"" ∷ path ∷ codes "\"/>\n" ∷ [])
