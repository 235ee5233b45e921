-- The text of a band's cells: an SVG path for each tone. The tone of a cell is the kind of frames that it shows, and how many
-- quarters of its frames are taken.
use Rattle.std.specs.Prelude.{◌≡◌, ℕ, ◌==◌, ◌||◌, Bool, if◌then◌else◌, nat_lt, min, List, [], ◌∷◌, ◌++◌, codes, decimal, flat_map, filter, length}
use Rattle.std.specs.List.{AllZip, concat}
use Rattle.kernel_core.specs.declared.frames.FrameKind.{FrameKind}
use Rattle.frame_picture.specs.declared.drawing.TheConstants.{MAX_ROWS}
use Rattle.frame_picture.specs.declared.drawing.Tone.{Tone}
use Rattle.frame_picture.specs.declared.grid.Grid.{Grid}
use Rattle.frame_picture.specs.declared.kinds.TheConstants.{ALL}
use Rattle.frame_picture.specs.declared.rectangles.Rectangle.{Rectangle}
use Rattle.frame_picture.specs.Rectangles.{CoverTone}
use Rattle.frame_picture.specs.Tones.{not_held}
use Rattle.picture_svg.specs.declared.svg.TheConstants.{LEFT, WIDTH}
use Rattle.picture_svg.specs.Sizes.{row_height}
use Rattle.picture_svg.specs.Texts.{path_text, ratio_text, rectangle_path}

-- the CSS class of frames of this kind
abbrev pub class_of : FrameKind → List ℕ
class_of FrameKind.NotHeld = codes "none"
class_of FrameKind.Free = codes "free"
class_of FrameKind.Page = codes "page"
class_of FrameKind.Full = codes "full"
class_of FrameKind.Partial = codes "partial"
class_of FrameKind.Empty = codes "empty"

-- the number of rows that are drawn: all rows of the grid, but at most MAX_ROWS
abbrev pub drawn_rows : Grid → ℕ
drawn_rows grid = min MAX_ROWS grid.rows

-- the text is a path of rectangles that together contain exactly the cells of this tone
pub record IsTonePath (columns : List (List Tone)) (rows : ℕ) (tone : Tone) (shade text : List ℕ) : Type 0 where
  pub rectangles : List Rectangle
  pub cells : CoverTone columns tone rows rectangles
  pub whole : text ≡ path_text (class_of tone.kind) shade (flat_map rectangle_path rectangles)

-- the additional CSS class of a row with this number of taken quarters; it is empty unless the number is 1, 2 or 3
abbrev pub shade_of : ℕ → List ℕ
shade_of quarters = if quarters == 1 then codes " one" else if quarters == 2 then codes " two" else if quarters == 3 then codes " three" else []

-- rows with this number of taken quarters get a path if the number is 4, or if a row has more than one frame
abbrev pub is_drawn : Grid → ℕ → Bool
is_drawn grid quarters = (quarters == 4) || nat_lt 1 grid.frames_per_row

abbrev pub drawn_shades : Grid → List ℕ
drawn_shades grid = filter (is_drawn grid) (1 ∷ 2 ∷ 3 ∷ 4 ∷ [])

-- the text has a path for each drawn shade of this kind, from the fewest taken quarters to the most
pub record AreShadePaths (columns : List (List Tone)) (grid : Grid) (kind : FrameKind) (text : List ℕ) : Type 0 where
  pub paths : List (List ℕ)
  pub each : AllZip (λ quarters path. IsTonePath columns (drawn_rows grid) (record { kind = kind; quarters = quarters }) (shade_of quarters) path)
      (drawn_shades grid) paths
  pub whole : text ≡ concat paths

-- the text has the paths of this kind; free frames have no path, because the background of the rows shows them
abbrev pub AreKindPaths : List (List Tone) → Grid → FrameKind → List ℕ → Type 0
AreKindPaths columns grid FrameKind.Free text = text ≡ []
AreKindPaths columns grid FrameKind.NotHeld text = IsTonePath columns (drawn_rows grid) not_held [] text
AreKindPaths columns grid FrameKind.Page text = AreShadePaths columns grid FrameKind.Page text
AreKindPaths columns grid FrameKind.Full text = AreShadePaths columns grid FrameKind.Full text
AreKindPaths columns grid FrameKind.Partial text = AreShadePaths columns grid FrameKind.Partial text
AreKindPaths columns grid FrameKind.Empty text = AreShadePaths columns grid FrameKind.Empty text

-- The beginning of the group of cells of a band with these numbers of columns and rows. Inside the group, one unit to the right
-- is a column, and one unit upwards from the y coordinate `foot` is a row.
unfoldable pub group_begin : ℕ → ℕ → ℕ → List ℕ
group_begin columns rows foot = concat (codes "<g class=\"cells\" transform=\"translate(" ∷ decimal LEFT ∷ codes " "
    ∷ decimal foot
    ∷ codes ") scale(" ∷ ratio_text WIDTH columns ∷ codes " -" ∷ decimal (row_height rows) ∷ codes ")\">\n" ∷ [])

-- the text of a band's rows: a group with the paths of all kinds
pub record AreRows (columns : List (List Tone)) (grid : Grid) (foot : ℕ) (text : List ℕ) : Type 0 where
  pub paths : List (List ℕ)
  pub each : AllZip (AreKindPaths columns grid) ALL paths
  pub whole : text ≡ group_begin (length columns) grid.rows foot ++ concat paths ++ codes "</g>\n"
