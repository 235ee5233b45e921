use Rattle.std.proofs.Common.{◌^◌, ◌≤◌}
use Rattle.frame_picture.specs.Bounds.{IsGreatest}
use Rattle.frame_picture.specs.Slots.{IsAbove, IsSheetOf}
use Rattle.frame_picture.proofs.SlotLemmas.{AnyBefore}
use Rattle.frame_picture.proofs.grid.slots_in.Given as goal

-- `slots` is 1 more than the greatest slot of tenant t in the sheets so far, or 0 if the tenant has no slot in them
abbrev pub invariant-loop-sheet : goal.invariant-loop-sheet
invariant-loop-sheet l = record {
  few : l.slots ≤ 2 ^ 16;
  greatest : IsGreatest (IsAbove (λ slot. AnyBefore (IsSheetOf l.t slot) l.column.sheets.items l.sheet-index)) 0 l.slots;
}
