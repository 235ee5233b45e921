use Rattle.std.proofs.Common.{◌^◌, ◌≤◌}
use Rattle.frame_picture.specs.Bounds.{IsGreatest}
use Rattle.frame_picture.specs.Histories.{columns_of}
use Rattle.frame_picture.specs.Slots.{IsAbove, HasSlot}
use Rattle.frame_picture.proofs.SlotLemmas.{AnyBefore}
use Rattle.frame_picture.proofs.grid.Grid.of.Given as goal

-- `slots` is 1 more than the greatest slot of tenant t in the columns so far, or 1 if the tenant has no slot in them
abbrev pub invariant-loop-column : goal.invariant-loop-column
invariant-loop-column l = record {
  few : l.slots ≤ 2 ^ 16;
  greatest : IsGreatest (IsAbove (λ slot. AnyBefore (HasSlot l.t slot) (columns_of l.history) l.column-index)) 1 l.slots;
}
