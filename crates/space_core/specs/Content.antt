-- RAM by superblock, the pool, and the mapping between superblocks and the slots of tenants.
use Rattle.std.specs.Prelude.{◌≡◌, ℕ, ◌*◌, ◌<◌, ◌≤◌, ◌^◌, ◌↔◌, Bool, false, List, [], Option, Some, None, is_some, length, count_by, replicate, slice_index_or}
use Rattle.model_core.specs.declared.limits.TheConstants.{FRAME_BYTES, WIDE_ORDER, WIDE_SUPERBLOCKS, WIDE_TENANTS, WIDE_FRAMES}
use Rattle.model_core.specs.declared.owner.Owner.{Owner}
use Rattle.model_core.specs.Owners.{owned_by, is_of}

-- `unit` is the number of bytes of a superblock. `owners` has the owner of each superblock, a tenant and a slot, or None. `slots`
-- has, for each tenant, the superblock in each of its slots, or None. `banks` has the bytes of each superblock. `marks` is true
-- for the superblocks that still have to be scrubbed.
pub record Content : Type 0 where
  pub unit : ℕ
  pub owners : List (Option Owner)
  pub slots : List (List (Option ℕ))
  pub banks : List (List ℕ)
  pub marks : List Bool

-- the bytes of superblock m
abbrev pub bank : List (List ℕ) → ℕ → List ℕ
bank banks m = slice_index_or banks m []

-- the owner of superblock m
abbrev pub owner_at : List (Option Owner) → ℕ → Option Owner
owner_at owners m = slice_index_or owners m None

-- whether superblock m still has to be scrubbed
abbrev pub mark_at : List Bool → ℕ → Bool
mark_at marks m = slice_index_or marks m false

-- the slots of tenant t
abbrev pub slots_of : List (List (Option ℕ)) → ℕ → List (Option ℕ)
slots_of slots t = slice_index_or slots t []

-- the superblock in slot u of tenant t
abbrev pub superblock_at : List (List (Option ℕ)) → ℕ → ℕ → Option ℕ
superblock_at slots t u = slice_index_or (slots_of slots t) u None

-- what is true of every `Space`
pub record IsSpace (s : Content) : Type 0 where
  pub some : 0 < s.unit
  pub small : s.unit ≤ FRAME_BYTES * 2 ^ WIDE_ORDER
  pub few : length s.owners ≤ WIDE_SUPERBLOCKS
  pub bytes : length s.owners * s.unit ≤ FRAME_BYTES * WIDE_FRAMES
  pub tenants : length s.slots ≤ WIDE_TENANTS
  pub paired : length s.banks ≡ length s.owners
  pub flagged : length s.marks ≡ length s.owners
  pub rows : (t : ℕ) → t < length s.slots → length (slots_of s.slots t) ≡ length s.owners
  pub sized : (m : ℕ) → m < length s.banks → length (bank s.banks m) ≡ s.unit
  -- owners and slots agree, so no slot has two superblocks and no superblock is in two slots
  pub agree : (t u m : ℕ) → (superblock_at s.slots t u ≡ Some m) ↔ (owner_at s.owners m ≡ Some (owned_by t u))
  -- Each tenant holds as many slots as it owns superblocks. Each tenant also has a slot for each superblock (`rows`), so if some
  -- superblock has no owner, each tenant has an empty slot.
  pub counted : (t : ℕ) → t < length s.slots → count_by is_some (slots_of s.slots t) ≡ count_by (is_of t) s.owners
  -- a superblock that has neither an owner nor a mark reads as zero
  pub spare : (m : ℕ) → m < length s.banks → owner_at s.owners m ≡ None → mark_at s.marks m ≡ false
      → bank s.banks m ≡ replicate s.unit 0

-- a space in which no superblock has an owner or a mark and every byte is zero
abbrev pub empty_space : ℕ → ℕ → ℕ → Content
empty_space unit superblocks tenants = record {
  unit = unit;
  owners = replicate superblocks None;
  slots = replicate tenants (replicate superblocks None);
  banks = replicate superblocks (replicate unit 0);
  marks = replicate superblocks false;
}
