use Rattle.std.proofs.Common.{◌≡◌, ℕ, ◌<◌, Some, slice_get}
use Rattle.space_core.specs.Content.{owner_at}
use Rattle.world_core.specs.World.{World}
use Rattle.kernel_core.specs.Shows.{Shows}
use Rattle.frame_picture.specs.Columns.{AreCells}
use Rattle.frame_picture.specs.declared.history.Sheet.{Sheet}
use Rattle.frame_picture.proofs.showing.show_sheets.Given as goal

-- each sheet so far has the owner of its superblock, and its cells have the kinds of this superblock's frames
abbrev pub invariant-loop-superblock : goal.invariant-loop-superblock
invariant-loop-superblock l = record {
  owners : (s : ℕ) (sheet : Sheet) → s < l.superblock → slice_get l.sheets s ≡ Some sheet → sheet.owner ≡ owner_at l.kernel.space.owners s;
  cells : (w : World) (s : ℕ) (sheet : Sheet) → Shows l.kernel w → s < l.superblock → slice_get l.sheets s ≡ Some sheet
      → AreCells l.kernel.order w sheet.owner sheet.cells.items;
}
