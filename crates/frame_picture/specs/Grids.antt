-- The frames of a tenant that the rows of its band show.
use Rattle.std.specs.Prelude.{◌≡◌, ℕ, ◌*◌, ◌^◌, ◌≤◌, max}
use Rattle.std.specs.Int.{div_ceil}
use Rattle.frame_picture.specs.Bounds.{IsGreatest, IsLeastPower}
use Rattle.frame_picture.specs.Histories.{columns_of, drawn_order}
use Rattle.frame_picture.specs.Slots.{IsAbove, HaveSlot}
use Rattle.frame_picture.specs.declared.grid.Grid.{Grid}
use Rattle.frame_picture.specs.declared.history.History.{History}

-- The grid shows all slots up to the greatest one that the tenant held in any column, and at least one slot. The number of frames
-- in a row is the least power of two that gives at most `most_rows` rows. If even 2^15 frames in a row give more rows, all frames
-- are one row.
pub record IsGridOf (history : History) (t most_rows : ℕ) (grid : Grid) : Type 0 where
  pub order : grid.order ≡ drawn_order history
  pub slots : ℕ
  pub held : IsGreatest (IsAbove (λ slot. HaveSlot t slot (columns_of history))) 1 slots
  pub frames : grid.frames ≡ slots * 2 ^ grid.order
  pub few : grid.rows ≤ most_rows
  pub row : IsLeastPower (λ size. div_ceil grid.frames size ≤ most_rows) (max grid.frames 1) grid.frames_per_row
