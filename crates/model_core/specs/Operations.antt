-- The steps on page blocks, bytes and slots of a private machine. Each step returns an answer and the machine after it. A refused
-- step leaves the machine unchanged.
use Rattle.std.specs.Prelude.{ℕ, ◌+◌, ◌^◌, Bool, not, List, length, filter, filter_map, Option, Some, None, Result, Ok, Err, slice_get, if◌then◌else◌, nat_le, nat_lt, ◌&&◌, ◌-◌, ◌==◌}
use Rattle.std.specs.List.{list_any, range_with_len}
use Rattle.model_core.specs.declared.limits.TheConstants.{MAX_BYTES}
use Rattle.model_core.specs.declared.refusals.AllocRefusal.{AllocRefusal}
use Rattle.model_core.specs.declared.refusals.ReadRefusal.{ReadRefusal}
use Rattle.model_core.specs.declared.refusals.TakeBackRefusal.{TakeBackRefusal}
use Rattle.model_core.specs.Blocks.{Block, block, slot_block}
use Rattle.model_core.specs.Machine.{Machine, put_rising, least_missing, holds, slot_of, taken_blocks, order_in}
use Rattle.model_core.specs.Slabs.{by_need, choice_by_need}
use Rattle.model_core.specs.Reach.{in_reach}

pub record Step (A : Type 0) : Type 0 where
  pub answer : A
  pub machine : Machine

abbrev pub refuse : {A E : Type 0} → E → Machine → Step (Result A E)
refuse refusal m = record { answer = Err refusal; machine = m }

-- Page blocks

abbrev pub with_block : Block → Machine → Machine
with_block b m = record m { blocks = put_rising (λ x. x.first) b m.blocks }

abbrev pub without_block : ℕ → Machine → Machine
without_block first m = record m { blocks = filter (λ x. not (x.first == first)) m.blocks }

abbrev pub alloc_at : ℕ → Machine → Option ℕ → Step (Result ℕ AllocRefusal)
alloc_at k m None = refuse AllocRefusal.NoFrames m
alloc_at k m (Some first) = record { answer = Ok first; machine = with_block (block first k) m }

-- Allocates a page block of order k, and frees empty slabs on demand. The answer is the block's first frame. Slots have 2 ^ order
-- frames.
unfoldable pub alloc_step : ℕ → ℕ → Machine → Step (Result ℕ AllocRefusal)
alloc_step order k m =
    if nat_lt order k then refuse AllocRefusal.BadOrder m
    else alloc_at k (by_need order k m) (choice_by_need order k m)

abbrev pub free_at : ℕ → Machine → Option ℕ → Step (Option ℕ)
free_at first m None = record { answer = None; machine = m }
free_at first m (Some order) = record { answer = Some order; machine = without_block first m }

-- Frees the page block that begins at this frame; its bytes stay. The answer is the block's order, or None if no page block
-- begins there.
unfoldable pub free_step : ℕ → Machine → Step (Option ℕ)
free_step first m = free_at first m (order_in m.blocks first)

-- Bytes

-- reads a range of 1 to MAX_BYTES bytes; refuses any other length, and a range that is not in reach
unfoldable pub read_step : ℕ → ℕ → Machine → Step (Result (List ℕ) ReadRefusal)
read_step place len m =
    if not (nat_le 1 len && nat_le len MAX_BYTES) then refuse ReadRefusal.BadLength m
    else (if not (in_reach m place len) then refuse ReadRefusal.OutOfReach m
    else record { answer = Ok (filter_map m.bytes (range_with_len place len)); machine = m })

-- what the bytes become when `new` is written, beginning at a place
abbrev pub written : ℕ → List ℕ → (ℕ → Option ℕ) → ℕ → Option ℕ
written place new bytes p = if nat_le place p && nat_lt p (place + length new) then slice_get new (p - place) else bytes p

-- Writes bytes, beginning at a place. The answer is the number of bytes, or None if the range is not in reach.
unfoldable pub write_step : ℕ → List ℕ → Machine → Step (Option ℕ)
write_step place new m =
    if in_reach m place (length new)
    then record { answer = Some (length new); machine = record m { bytes = written place new m.bytes } }
    else record { answer = None; machine = m }

-- Slots

-- the least slot that is not held
unfoldable pub next_slot : Machine → ℕ
next_slot m = least_missing 0 m.slots

-- after a grant the machine also holds the least slot that it did not hold before, and the places of this slot read as zero
unfoldable pub after_grant : ℕ → Machine → Machine
after_grant order m = record m {
  slots = put_rising (λ u. u) (next_slot m) m.slots;
  bytes = λ place. if slot_of order place == next_slot m then Some 0 else m.bytes place;
}

-- the blocks share a frame
abbrev pub overlaps : Block → Block → Bool
overlaps a b = nat_lt a.first (b.first + 2 ^ b.order) && nat_lt b.first (a.first + 2 ^ a.order)

-- a frame of the slot is taken
unfoldable pub is_busy : ℕ → Machine → ℕ → Bool
is_busy order m slot = list_any (overlaps (slot_block order slot)) (taken_blocks m)

-- after a take-back the slot is no longer held, and its places have no bytes
unfoldable pub after_take_back : ℕ → ℕ → Machine → Machine
after_take_back order slot m = record m {
  slots = filter (λ u. not (u == slot)) m.slots;
  bytes = λ place. if slot_of order place == slot then None else m.bytes place;
}

-- takes back a slot; refuses a slot that is not held or has a taken frame
unfoldable pub take_back_step : ℕ → ℕ → Machine → Step (Result (Unit {0}) TakeBackRefusal)
take_back_step order slot m =
    if not (holds m slot) then refuse TakeBackRefusal.NoSlot m
    else (if is_busy order m slot then refuse TakeBackRefusal.SlotBusy m
    else record { answer = Ok tt; machine = after_take_back order slot m })
