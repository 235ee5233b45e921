-- What each tenant holds in the buddy system: its slots with their superblocks, and its taken blocks. Free blocks are not part of
-- the content, because they follow from the held slots and the taken blocks.
use Rattle.std.specs.Prelude.{ℕ, ◌≡◌, ◌*◌, ◌^◌, ◌<◌, ◌≤◌, ◌==◌, Bool, false, Option, Some, None, is_some, List, [], length, replicate, slice_index_or, slice_set, count_by}
use Rattle.model_core.specs.declared.limits.TheConstants.{WIDE_ORDER, WIDE_SUPERBLOCKS, WIDE_TENANTS, WIDE_FRAMES}
use Rattle.model_core.specs.Blocks.{Taken, block, IsSound}
use Rattle.model_core.specs.Choice.{is_free, count_below}

-- What one tenant holds: the superblock in each slot, and for each frame the order of the taken block that begins there. An entry
-- is None if the slot has no superblock, or if no taken block begins at the frame.
pub record Holding : Type 0 where
  pub slots : List (Option ℕ)
  pub taken : List (Option ℕ)

-- `top` is the order of a superblock, `superblocks` is the number of superblocks, and `tenants` has what each tenant holds
pub record Content : Type 0 where
  pub top : ℕ
  pub superblocks : ℕ
  pub tenants : List Holding

-- what a tenant holds if it holds no slot and no block
abbrev pub nothing_held : ℕ → ℕ → Holding
nothing_held top superblocks = record { slots = replicate superblocks None; taken = replicate (superblocks * 2 ^ top) None }

-- the content of a machine of which no tenant holds anything
abbrev pub empty_buddy : ℕ → ℕ → ℕ → Content
empty_buddy top superblocks tenants =
    record { top = top; superblocks = superblocks; tenants = replicate tenants (nothing_held top superblocks) }

abbrev pub no_tenant : Holding
no_tenant = record { slots = []; taken = [] }

abbrev pub holding_of : ℕ → Content → Holding
holding_of t c = slice_index_or c.tenants t no_tenant

-- c, changed so that tenant t holds h
abbrev pub with_holding : ℕ → Holding → Content → Content
with_holding t h c = record c { tenants = slice_set c.tenants t h }

-- the superblock in slot u
abbrev pub superblock_at : Holding → ℕ → Option ℕ
superblock_at h u = slice_index_or h.slots u None

abbrev pub is_held : Holding → ℕ → Bool
is_held h u = is_some (superblock_at h u)

-- the order of the taken block that begins at frame f, or None if no taken block begins there
abbrev pub taken_of : Holding → Taken
taken_of h f = slice_index_or h.taken f None

abbrev pub with_block : ℕ → ℕ → Holding → Holding
with_block f k h = record h { taken = slice_set h.taken f (Some k) }

abbrev pub without_block : ℕ → Holding → Holding
without_block f h = record h { taken = slice_set h.taken f None }

abbrev pub with_slot : ℕ → ℕ → Holding → Holding
with_slot u m h = record h { slots = slice_set h.slots u (Some m) }

abbrev pub without_slot : ℕ → Holding → Holding
without_slot u h = record h { slots = slice_set h.slots u None }

-- the taken blocks are aligned, lie in held slots and share no frame
abbrev pub IsSoundHolding : ℕ → Holding → Type 0
IsSoundHolding top h = IsSound top (is_held h) (taken_of h)

-- the number of free blocks of order k
abbrev pub free_block_count : ℕ → ℕ → ℕ → Holding → ℕ
free_block_count top superblocks k h = count_below (λ f. is_free top (is_held h) (taken_of h) (block f k)) (superblocks * 2 ^ top)

abbrev pub has_order : ℕ → Option ℕ → Bool
has_order k None = false
has_order k (Some j) = j == k

-- the number of taken blocks of order k
abbrev pub taken_block_count : ℕ → Holding → ℕ
taken_block_count k h = count_by (has_order k) h.taken

abbrev pub held_slots : Holding → ℕ
held_slots h = count_by is_some h.slots

-- the sizes of a machine are within the limits, and each tenant has an entry for each slot and for each frame
pub record IsSized (c : Content) : Type 0 where
  pub small : c.top ≤ WIDE_ORDER
  pub few : c.superblocks ≤ WIDE_SUPERBLOCKS
  pub frames : c.superblocks * 2 ^ c.top ≤ WIDE_FRAMES
  pub tenants : length c.tenants ≤ WIDE_TENANTS
  pub slots : (t : ℕ) → t < length c.tenants → length (holding_of t c).slots ≡ c.superblocks
  pub taken : (t : ℕ) → t < length c.tenants → length (holding_of t c).taken ≡ c.superblocks * 2 ^ c.top

-- what is true of every `Buddy`
pub record BuddyLaws (c : Content) : Type 0 where
  pub sizes : IsSized c
  pub sound : (t : ℕ) → t < length c.tenants → IsSoundHolding c.top (holding_of t c)
  -- no superblock is in two slots
  pub apart : (t u v w m : ℕ) → superblock_at (holding_of t c) u ≡ Some m → superblock_at (holding_of v c) w ≡ Some m → (t ≡ v) × (u ≡ w)
