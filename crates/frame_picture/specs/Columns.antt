-- A column of a history: the owners of superblocks, the kinds of their frames, and the figures of tenants.
use Rattle.std.specs.Prelude.{slice_index, ◌≡◌, ℕ, ◌+◌, ◌*◌, ◌^◌, ◌<◌, List, Option, Some, slice_get}
use Rattle.kernel_core.specs.declared.frames.FrameKind.{FrameKind}
use Rattle.model_core.specs.declared.report.OrderRow.{OrderRow}
use Rattle.model_core.specs.declared.owner.Owner.{Owner}
use Rattle.world_core.specs.World.{World}
use Rattle.model_core.specs.Machine.{Machine}
use Rattle.model_core.specs.Reports.{frames_held, frames_taken, order_rows}
use Rattle.space_core.specs.Content.{owner_at}
use Rattle.kernel_core.specs.Content.{KernelContent}
use Rattle.kernel_core.specs.Shows.{Shows}
use Rattle.kernel_core.specs.Frames.{IsFrame}
use Rattle.frame_picture.specs.declared.history.Sheet.{Sheet}
use Rattle.frame_picture.specs.declared.history.Figures.{Figures}
use Rattle.frame_picture.specs.declared.history.Column.{Column}

-- If a superblock has an owner, its cell k is the kind of frame k of the owner's slot, in the owner's private machine. This holds
-- for frames with numbers below 2 ^ 32.
abbrev pub AreCells : ℕ → World → Option Owner → List FrameKind → Type 0
AreCells order w holder cells = (owner : Owner) (m : Machine) (k : ℕ) (cell : FrameKind) → holder ≡ Some owner
    → slice_get w.machines owner.tenant ≡ Some m → owner.slot * 2 ^ order + k < 2 ^ 32 → slice_get cells k ≡ Some cell
    → IsFrame order m (owner.slot * 2 ^ order + k) cell

-- the figures are those of a tenant's private machine, as in its report
pub record AreFigures (order : ℕ) (m : Machine) (figures : Figures) : Type 0 where
  pub held : figures.held ≡ frames_held order m
  pub taken : figures.taken ≡ frames_taken m
  pub free : (k : ℕ) (row : OrderRow) → slice_get (order_rows order m (order + 1)) k ≡ Some row → slice_index figures.free k ≡ row.free

-- the column shows the world: the owner of each superblock, the kinds of its frames, and the figures of each tenant
pub record IsColumnOf (order : ℕ) (w : World) (column : Column) : Type 0 where
  pub owners : (s : ℕ) (sheet : Sheet) → slice_get column.sheets.items s ≡ Some sheet → sheet.owner ≡ owner_at w.owners s
  pub cells : (s : ℕ) (sheet : Sheet) → slice_get column.sheets.items s ≡ Some sheet → AreCells order w sheet.owner sheet.cells.items
  pub figures : (t : ℕ) (figures : Figures) (m : Machine) → slice_get column.figures.items t ≡ Some figures
      → slice_get w.machines t ≡ Some m → AreFigures order m figures

-- The column shows the world of the kernel after `lines` lines. `counts` has, for each tenant, the number of its requests that
-- were refused for lack of frames.
pub record IsColumnAfter (kernel : KernelContent) (lines : ℕ) (counts : List ℕ) (column : Column) : Type 0 where
  pub line : column.line ≡ lines
  pub refused : (t count : ℕ) → slice_get column.refused.items t ≡ Some count → count ≡ slice_index counts t
  pub shows : (w : World) → Shows kernel w → IsColumnOf kernel.order w column
