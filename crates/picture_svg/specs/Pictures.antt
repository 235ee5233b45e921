-- The text of a whole picture.
use Rattle.std.specs.Prelude.{◌≡◌, ℕ, ◌+◌, ◌-◌, ◌*◌, ◌/◌, ◌^◌, max, min, List, [], ◌∷◌, ◌++◌, Option, codes, fold, length, map, vec_len}
use Rattle.std.specs.List.{concat}
use Rattle.frame_picture.specs.declared.drawing.TheConstants.{MAX_ROWS}
use Rattle.frame_picture.specs.declared.drawing.Tone.{Tone}
use Rattle.frame_picture.specs.declared.grid.Grid.{Grid}
use Rattle.frame_picture.specs.declared.history.History.{History}
use Rattle.frame_picture.specs.Grids.{IsGridOf}
use Rattle.frame_picture.specs.Histories.{columns_of, drawn_order, line_count, superblocks_of, width_of}
use Rattle.picture_svg.specs.declared.picture.Picture.{Picture}
use Rattle.picture_svg.specs.declared.picture.TheConstants.{TALL_BANDS}
use Rattle.picture_svg.specs.declared.svg.TheConstants.{HEAD}
use Rattle.picture_svg.specs.Bands.{AreCellsOf, IsBand}
use Rattle.picture_svg.specs.Sizes.{band_height, lower}
use Rattle.picture_svg.specs.Texts.{opening_text, title_text}

-- the number of the first tenant that is drawn, and the number of the last one plus 1
abbrev pub first_tenant : Picture → ℕ
first_tenant picture = picture.first

abbrev pub end_of_tenants : Picture → ℕ
end_of_tenants picture = picture.end

-- the number of columns that the picture has cells for
abbrev pub most_columns_in : Picture → ℕ
most_columns_in picture = vec_len picture.cells

-- the number of pixels by which the word `refused` is moved down
abbrev pub label_gap_of : Picture → ℕ
label_gap_of picture = picture.label_gap

-- the number of tenants that are drawn
abbrev pub drawn_tenants : Picture → ℕ
drawn_tenants picture = end_of_tenants picture - first_tenant picture

-- both pictures draw the same tenants, have cells for the same number of columns, and have the same gap for the word `refused`
pub record IsSamePicture (old new : Picture) : Type 0 where
  pub first : first_tenant new ≡ first_tenant old
  pub end : end_of_tenants new ≡ end_of_tenants old
  pub columns : most_columns_in new ≡ most_columns_in old
  pub gap : label_gap_of new ≡ label_gap_of old

-- the largest number of rows in a band, if there are this many bands
abbrev pub most_rows_of : ℕ → ℕ
most_rows_of bands = TALL_BANDS * MAX_ROWS / max bands TALL_BANDS

-- the y coordinate at which the last band ends, if the bands have these numbers of rows and the first band begins at `top`
abbrev pub bottom_of : ℕ → List ℕ → ℕ
bottom_of top rows = fold (λ top rows. lower top (band_height rows)) top rows

abbrev pub rows_of : List Grid → List ℕ
rows_of grids = map (λ grid. grid.rows) grids

-- the text of tenant t's band; it shows all columns, or only the first ones if the picture has cells for fewer columns
pub record IsBandOf (picture : Picture) (history : History) (t : ℕ) (grid : Grid) (top : ℕ) (text : List ℕ) : Type 0 where
  pub cells : List (List Tone)
  pub is_grid : IsGridOf history t (most_rows_of (drawn_tenants picture)) grid
  pub long : length cells ≡ min (length (columns_of history)) (most_columns_in picture)
  pub are_cells : AreCellsOf (columns_of history) t grid cells
  pub is_band : IsBand history t grid cells top (label_gap_of picture) text

-- the text of the bands of the tenants from t on, one for each grid, one below the other from `top` on
abbrev pub AreBands : Picture → History → ℕ → ℕ → List Grid → List ℕ → Type 0
AreBands picture history t top [] text = text ≡ []
AreBands picture history t top (grid ∷ grids) text = (band : List ℕ) × (rest : List ℕ)
    × IsBandOf picture history t grid top band
    × AreBands picture history (t + 1) (lower top (band_height grid.rows)) grids rest × (text ≡ band ++ rest)

-- The text of the picture of a history: a title with the name of the trace, and a band for each drawn tenant. The text of the
-- legend is not specified.
pub record IsPictureOf (picture : Picture) (history : History) (name : Option (List ℕ)) (text : List ℕ) : Type 0 where
  pub grids : List Grid
  pub legend : List ℕ
  pub bands : List ℕ
  pub tenants : length grids ≡ drawn_tenants picture
  pub are_bands : AreBands picture history (first_tenant picture) HEAD grids bands
  pub whole : text ≡ concat (opening_text (bottom_of HEAD (rows_of grids))
      ∷ title_text (line_count history) name (superblocks_of history) (2 ^ drawn_order history) (width_of history)
      ∷ legend ∷ bands ∷ codes "</svg>\n" ∷ [])
