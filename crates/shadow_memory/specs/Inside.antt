-- The stored form of shadow memory, its invariants, and its changes.
use Rattle.std.specs.Prelude.{◌≡◌, ℕ, ◌+◌, ◌-◌, ◌++◌, ◌*◌, ◌^◌, ◌<◌, ◌≤◌, Bool, true, not, List, length, replicate, Option, Some, None, option_map, slice_index, slice_index_or, nat_le, nat_lt, if◌then◌else◌, ◌&&◌, ◌==◌}
use Rattle.std.specs.List.{list_any, AllByRecursion}
use Rattle.std.specs.Option.{option_and_then}
use Rattle.model_core.specs.Machine.{slot_of}
use Rattle.promise_core.specs.Bytes.{Holder, Cell}
use Rattle.promise_core.specs.Holdings.{KnownCache, Holdings, known_cache}
use Rattle.shadow_memory.specs.Left.{LeftSlot, Left, left_in, slots_in, slot_places}
use Rattle.shadow_memory.specs.declared.kept.KeptByte.{KeptByte}

abbrev pub shown_kept : KeptByte → Option Cell
shown_kept KeptByte.Fresh = None
shown_kept (KeptByte.Page byte sure) = Some (record { holder = Holder.Page; byte = byte; sure = sure })
shown_kept (KeptByte.Object cache byte sure first) = Some (record { holder = Holder.Object cache first; byte = byte; sure = sure })

-- the stored bytes, with `Fresh` added at the end until the list has at least `places` elements
abbrev pub padded : ℕ → List KeptByte → List KeptByte
padded places kept = kept ++ replicate (places - length kept) KeptByte.Fresh

-- stored byte j is what was left in the slots at `place + j`
abbrev pub AreKeptFrom : ℕ → List LeftSlot → ℕ → List KeptByte → Type 0
AreKeptFrom order slots place kept = (j : ℕ) → j < length kept → shown_kept (slice_index_or kept j KeptByte.Fresh) ≡ left_in order slots (place + j)

abbrev pub AreFrom : Left → ℕ → List KeptByte → Type 0
AreFrom left = AreKeptFrom left.order left.slots

-- a change at one place: it maps the place and what was left there to what is left there afterwards
abbrev pub CellStep : Type 0
CellStep = ℕ → Option Cell → Option Cell

-- the change that makes the step at the places from `begin` to `end - 1`, and leaves all other places unchanged
abbrev pub within : ℕ → ℕ → CellStep → CellStep
within begin end step place cell = if nat_le begin place && nat_lt place end then step place cell else cell

-- the step that puts the byte in doubt if its holder passes the test
abbrev pub doubted_of : (Holder → Bool) → CellStep
doubted_of test place = option_map (λ (cell : Cell). record cell { sure = cell.sure && not (test cell.holder) })

-- the step that forgets the byte if its holder passes the test
abbrev pub removed_of : (Holder → Bool) → CellStep
removed_of test place = option_and_then (λ (cell : Cell). if test cell.holder then None else Some cell)

-- the known cache of the holder, if the holder is an object of a known cache; otherwise None
abbrev pub cache_of : Holdings → Holder → Option KnownCache
cache_of h Holder.Page = None
cache_of h (Holder.Object number first) = known_cache h number

-- if the holder is an object, `place` is at least the object's first place, and less than this first place plus the reach of its
-- cache
abbrev pub IsHolderNear : List ℕ → ℕ → Holder → Type 0
IsHolderNear reach place Holder.Page = Unit {0}
IsHolderNear reach place (Holder.Object number first) = (first ≤ place) × (place < first + slice_index reach number)

abbrev pub IsNear : List ℕ → ℕ → Option Cell → Type 0
IsNear reach place None = Unit {0}
IsNear reach place (Some cell) = IsHolderNear reach place cell.holder

-- the step keeps `IsNear`: if an object's byte is within the reach of its cache, so is the byte that the step makes of it, if any
abbrev pub StaysNear : CellStep → Type 0
StaysNear step = (reach : List ℕ) (place : ℕ) (cell : Option Cell)
    → IsNear reach place cell → IsNear reach place (step place cell)

-- the slot has a cell for each of its places, and these places are below 2 ^ 32
pub record IsSlotWhole (order : ℕ) (s : LeftSlot) : Type 0 where
  pub all : length s.cells ≡ slot_places order
  pub low : (s.slot + 1) * slot_places order ≤ 2 ^ 32

-- each slot has a cell for each place of its 2 ^ order frames, and each byte that an object left is within the reach of the
-- object's cache
pub record AreSlots (order : ℕ) (slots : List LeftSlot) (reach : List ℕ) : Type 0 where
  pub whole : AllByRecursion (IsSlotWhole order) slots
  pub near : (place : ℕ) → IsNear reach place (left_in order slots place)

-- `new` has the slots of `old`, and each cell of `new` is the cell of `old` after the step. All places are below 2 ^ 32.
pub record AreStepped (order : ℕ) (step : CellStep) (old new : List LeftSlot) : Type 0 where
  pub slots : slots_in new ≡ slots_in old
  pub whole : AllByRecursion (IsSlotWhole order) new
  pub cells : (place : ℕ) → list_any (λ u. u == slot_of order place) (slots_in old) ≡ true
      → (place < 2 ^ 32) × (left_in order new place ≡ step place (left_in order old place))
