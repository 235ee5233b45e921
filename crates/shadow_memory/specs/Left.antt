-- Shadow memory: the slots that a tenant holds, and the byte that was left at each of their places, with its holder.
use Rattle.std.specs.Prelude.{◌≡◌, ℕ, ◌-◌, ◌*◌, ◌^◌, Bool, List, [], ◌∷◌, map, Option, None, slice_index_or, if◌then◌else◌, ◌==◌}
use Rattle.std.specs.List.{list_any}
use Rattle.model_core.specs.declared.limits.TheConstants.{FRAME_BYTES}
use Rattle.model_core.specs.Machine.{slot_of}
use Rattle.promise_core.specs.Bytes.{Cell, Cells}

-- a slot, and what was left at each of its places
pub record LeftSlot : Type 0 where
  pub slot : ℕ
  pub cells : List (Option Cell)

-- the slots of a tenant, each of 2 ^ order frames
pub record Left : Type 0 where
  pub order : ℕ
  pub slots : List LeftSlot

-- the number of places in a slot
abbrev pub slot_places : ℕ → ℕ
slot_places order = 2 ^ order * FRAME_BYTES

-- what was left at a place; None if nothing was left there or the place is in none of these slots
abbrev pub left_in : ℕ → List LeftSlot → Cells
left_in order [] place = None
left_in order (s ∷ ss) place =
    if s.slot == slot_of order place then slice_index_or s.cells (place - s.slot * slot_places order) None
    else left_in order ss place

abbrev pub left_at : Left → Cells
left_at left = left_in left.order left.slots

abbrev pub slots_in : List LeftSlot → List ℕ
slots_in ss = map {B = ℕ} (λ (s : LeftSlot). s.slot) ss

abbrev pub left_slots : Left → List ℕ
left_slots left = slots_in left.slots

-- the place lies in one of these slots
abbrev pub has_place : Left → ℕ → Bool
has_place left place = list_any (λ u. u == slot_of left.order place) (left_slots left)

-- `new` has the order of `old` and the slots `held`, and its cells are the cells of `old` after `change`
pub record Becomes (old : Left) (held : List ℕ) (change : Cells → Cells) (new : Left) : Type 0 where
  pub order : new.order ≡ old.order
  pub slots : left_slots new ≡ held
  pub cells : left_at new ≡ change (left_at old)
