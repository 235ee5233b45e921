-- The orders of the free blocks in the superblocks of one tenant, according to the root words of their trees.
use Rattle.std.specs.Prelude.{◌≡◌, ◌↔◌, ℕ, ◌+◌, ◌<◌, ◌≤◌, Option, Some, None, is_some, List, length, slice_index, slice_index_or, count_by}
use Rattle.std.specs.Int.{bit_at}
use Rattle.model_core.specs.declared.limits.TheConstants.{WIDE_ORDER, WIDE_SUPERBLOCKS}
use Rattle.buddy_core.specs.declared.find.Source.{Source}
use Rattle.buddy_core.specs.Stored.{StoredSuperblock, StoredTenant, superblock_of}

-- neither slot `end` nor a later slot has a superblock
pub record IsEnd (slots : List (Option ℕ)) (end : ℕ) : Type 0 where
  pub within : end ≤ length slots
  pub rest : (u : ℕ) → end ≤ u → slice_index_or slots u None ≡ None

-- A tenant has at most WIDE_SUPERBLOCKS slots, `held` of them have a superblock, and neither slot `end` nor a later slot has one.
-- For each of at most WIDE_ORDER + 1 orders, the tenant has a count of free blocks and a count of taken blocks.
pub record IsStoredTenant (slots : List (Option ℕ)) (end held : ℕ) (free taken : List ℕ) : Type 0 where
  pub ends : IsEnd slots end
  pub counted : held ≡ count_by is_some slots
  pub few : length slots ≤ WIDE_SUPERBLOCKS
  pub orders : length free ≤ WIDE_ORDER + 1
  pub alike : length taken ≡ length free

-- bit j of the root word of superblock m is 1, so the superblock has a free block of order j
abbrev pub HasBit : List StoredSuperblock → ℕ → ℕ → Type 0
HasBit superblocks m j = bit_at (slice_index (superblock_of m superblocks).tree.words 0) j ≡ 1

-- the superblock in some slot has a free block of order j
abbrev pub HasOrder : List StoredSuperblock → List (Option ℕ) → ℕ → Type 0
HasOrder superblocks slots j = (u m : ℕ) × (slice_index_or slots u None ≡ Some m) × HasBit superblocks m j

-- the tenant's count of free blocks of an order is above 0 if and only if one of its superblocks has a free block of that order
abbrev pub IsCounted : List StoredSuperblock → StoredTenant → Type 0
IsCounted superblocks tenant = (j : ℕ) → (0 < slice_index tenant.free j) ↔ HasOrder superblocks tenant.slots j

-- no superblock in a slot has a free block of order k or more
abbrev pub IsWithoutOrder : List StoredSuperblock → List (Option ℕ) → ℕ → Type 0
IsWithoutOrder superblocks slots k = (j u m : ℕ) → k ≤ j → slice_index_or slots u None ≡ Some m → HasBit superblocks m j → ⊥

-- Of the orders that are at least k and have a free block, `p.order` is the least. `p.slot` is the first slot with a free block
-- of this order, and `p.superblock` is the superblock in this slot.
pub record IsSource (superblocks : List StoredSuperblock) (slots : List (Option ℕ)) (k : ℕ) (p : Source) : Type 0 where
  pub at : slice_index_or slots p.slot None ≡ Some p.superblock
  pub enough : k ≤ p.order
  pub bit : HasBit superblocks p.superblock p.order
  pub least : (i u m : ℕ) → k ≤ i → i < p.order → slice_index_or slots u None ≡ Some m → HasBit superblocks m i → ⊥
  pub first : (u m : ℕ) → u < p.slot → slice_index_or slots u None ≡ Some m → HasBit superblocks m p.order → ⊥
