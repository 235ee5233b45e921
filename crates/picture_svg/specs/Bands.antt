-- The text of a tenant's band: its title and figures, its rows, its refusals and its free frames.
use Rattle.std.specs.Prelude.{◌≡◌, ℕ, ◌+◌, ◌-◌, ◌<◌, ◌≤◌, List, [], ◌∷◌, Some, SomeIndex, length, slice_get, slice_index_or}
use Rattle.std.specs.List.{concat}
use Rattle.frame_picture.specs.declared.drawing.TheConstants.{MAX_ROWS}
use Rattle.frame_picture.specs.declared.drawing.Tone.{Tone}
use Rattle.frame_picture.specs.declared.grid.Grid.{Grid}
use Rattle.frame_picture.specs.declared.history.Column.{Column}
use Rattle.frame_picture.specs.declared.history.History.{History}
use Rattle.frame_picture.specs.Bounds.{IsGreatest}
use Rattle.frame_picture.specs.Histories.{columns_of, drawn_order}
use Rattle.frame_picture.specs.Stacks.{figures_in_column, free_in_column, refused_until, taken_in_column}
use Rattle.frame_picture.specs.Tones.{not_held, IsRowTone}
use Rattle.picture_svg.specs.declared.svg.TheConstants.{ABOVE, REFUSALS_TOP, STACK, STACK_TOP}
use Rattle.picture_svg.specs.Cells.{AreRows}
use Rattle.picture_svg.specs.Marks.{refusals_text, stack_text}
use Rattle.picture_svg.specs.Sizes.{lower, rows_height}
use Rattle.picture_svg.specs.Texts.{figures_text, tenant_title}

-- the text has tenant t's figures in the last column, and the largest number of the tenant's taken frames in any column
pub record IsFiguresText (columns : List Column) (t top : ℕ) (text : List ℕ) : Type 0 where
  pub most : ℕ
  pub greatest : IsGreatest (λ frames. SomeIndex columns (λ n. taken_in_column columns t n ≡ frames)) 0 most
  pub whole : let last = length columns - 1 in
      text ≡ figures_text (taken_in_column columns t last) (figures_in_column columns t last).held most (refused_until columns t last) top

-- the text is a stack whose height represents the largest number of tenant t's free frames in any column, but at least 1
pub record IsStackText (history : History) (t foot : ℕ) (text : List ℕ) : Type 0 where
  pub most : ℕ
  pub greatest : IsGreatest (λ frames. SomeIndex (columns_of history) (λ n. free_in_column (columns_of history) t 0 n
      ≡ frames)) 1 most
  pub whole : text ≡ stack_text (columns_of history) t (drawn_order history) foot most

-- element n of `cells` has the tones of tenant t's rows in column n; `cells` may have fewer elements than there are columns
pub record AreCellsOf (columns : List Column) (t : ℕ) (grid : Grid) (cells : List (List Tone)) : Type 0 where
  pub few : length cells ≤ length columns
  pub each : (at row : ℕ) (column : Column) (tones : List Tone) → slice_get columns at ≡ Some column → slice_get cells at
      ≡ Some tones
      → row < MAX_ROWS → row < grid.rows → IsRowTone column t grid row (slice_index_or tones row not_held)

-- the y coordinate at which the rows end, in a band that begins at the y coordinate `top`
abbrev pub foot_of : Grid → ℕ → ℕ
foot_of grid top = lower (lower top ABOVE) (rows_height grid.rows)

-- The text of tenant t's band, from the y coordinate `top` down: its title and figures, its rows, the marks of refusals and the
-- free frames. The other parts are not specified: the background of the rows, the axes of frames and slots beside the rows, and
-- the axis of lines at the bottom.
pub record IsBand (history : History) (t : ℕ) (grid : Grid) (cells : List (List Tone)) (top gap : ℕ) (text : List ℕ) : Type 0 where
  pub figures : List ℕ
  pub ground : List ℕ
  pub rows : List ℕ
  pub axes : List ℕ
  pub stack : List ℕ
  pub lines : List ℕ
  pub are_figures : IsFiguresText (columns_of history) t top figures
  pub are_rows : AreRows cells grid (foot_of grid top) rows
  pub is_stack : IsStackText history t (lower (foot_of grid top) (STACK_TOP + STACK)) stack
  pub whole : text ≡ concat (tenant_title t grid.frames_per_row top ∷ figures ∷ ground ∷ rows ∷ axes
      ∷ refusals_text (columns_of history) t (lower (foot_of grid top) REFUSALS_TOP) gap ∷ stack ∷ lines ∷ [])
