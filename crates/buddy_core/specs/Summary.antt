-- A tenant's summary: for each order, the set of the slots whose superblock has a free block of this order. A set is a list with a
-- truth value for each slot.
use Rattle.std.specs.Prelude.{◌≡◌, ◌==◌, ℕ, Bool, false, Option, Some, None, List, length, map, slice_index}
use Rattle.std.specs.Int.{bit_at}
use Rattle.std.specs.List.{range_with_len}
use Rattle.buddy_core.specs.Stored.{StoredSuperblock, StoredTenant, superblock_of}

-- whether the superblock in a slot has a free block of order j, by the superblock's root word
abbrev pub is_source : List StoredSuperblock → ℕ → Option ℕ → Bool
is_source superblocks j None = false
is_source superblocks j (Some m) = bit_at (slice_index (superblock_of m superblocks).tree.words 0) j == 1

abbrev pub summary_of : List StoredSuperblock → StoredTenant → List (List Bool)
summary_of superblocks tenant = map (λ j. map (is_source superblocks j) tenant.slots) (range_with_len 0 (length tenant.free))

-- each tenant's summary is exact
abbrev pub AreExact : List StoredSuperblock → List StoredTenant → List (List (List Bool)) → Type 0
AreExact superblocks tenants summaries = summaries ≡ map (summary_of superblocks) tenants
