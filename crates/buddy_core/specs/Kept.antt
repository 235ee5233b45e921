-- What is always true of the stored superblocks and tenants.
use Rattle.std.specs.Prelude.{◌≡◌, ℕ, ◌+◌, ◌*◌, ◌^◌, ◌<◌, ◌≤◌, Bool, Some, List, length, slice_index}
use Rattle.model_core.specs.declared.limits.TheConstants.{WIDE_ORDER, WIDE_SUPERBLOCKS, WIDE_TENANTS, WIDE_FRAMES}
use Rattle.model_core.specs.Blocks.{block, IsSound}
use Rattle.model_core.specs.Choice.{is_available, is_free, count_below}
use Rattle.buddy_core.specs.Content.{taken_block_count}
use Rattle.buddy_core.specs.Tree.{Shows}
use Rattle.buddy_core.specs.Stored.{StoredSuperblock, StoredTenant, bare_superblock, superblock_of, stored_tenant, superblock_at, held_by, taken_by, holding_shown}

-- whether frame x of slot u is available; x counts from the slot's first frame
abbrev pub available_in : ℕ → List StoredSuperblock → StoredTenant → ℕ → ℕ → Bool
available_in top superblocks tenant u x = is_available top (held_by tenant) (taken_by top superblocks tenant) (u * 2 ^ top + x)

-- the number of a tenant's free blocks of order k
abbrev pub free_number : ℕ → List StoredSuperblock → ℕ → StoredTenant → ℕ
free_number top superblocks k tenant =
    count_below (λ f. is_free top (held_by tenant) (taken_by top superblocks tenant) (block f k)) (length superblocks * 2 ^ top)

pub record HasTenantSizes (top superblocks : ℕ) (tenant : StoredTenant) : Type 0 where
  pub slots : length tenant.slots ≡ superblocks
  pub free : length tenant.free ≡ top + 1
  pub taken : length tenant.taken ≡ top + 1

-- The tenant's taken blocks are sound (`IsSound`). Its slots and taken blocks agree with its counts and its superblocks' words.
pub record IsTenantKept (top : ℕ) (superblocks : List StoredSuperblock) (tenant : StoredTenant) : Type 0 where
  pub sizes : HasTenantSizes top (length superblocks) tenant
  pub within : (u m : ℕ) → superblock_at tenant u ≡ Some m → m < length superblocks
  pub sound : IsSound top (held_by tenant) (taken_by top superblocks tenant)
  pub shows : (u m : ℕ) → superblock_at tenant u ≡ Some m → Shows top (available_in top superblocks tenant u) (superblock_of m superblocks).tree.words
  pub free : (k : ℕ) → k ≤ top → slice_index tenant.free k ≡ free_number top superblocks k tenant
  pub taken : (k : ℕ) → k ≤ top → slice_index tenant.taken k ≡ taken_block_count k (holding_shown top superblocks tenant)

pub record IsKept (top : ℕ) (superblocks : List StoredSuperblock) (tenants : List StoredTenant) : Type 0 where
  pub small : top ≤ WIDE_ORDER
  pub few : length superblocks ≤ WIDE_SUPERBLOCKS
  pub frames : length superblocks * 2 ^ top ≤ WIDE_FRAMES
  pub few_tenants : length tenants ≤ WIDE_TENANTS
  pub order : (m : ℕ) → m < length superblocks → (superblock_of m superblocks).tree.order ≡ top
  pub each : (t : ℕ) → t < length tenants → IsTenantKept top superblocks (stored_tenant t tenants)
  -- no superblock is in two slots
  pub apart : (t u v w m : ℕ) → superblock_at (stored_tenant t tenants) u ≡ Some m
      → superblock_at (stored_tenant v tenants) w ≡ Some m → (t ≡ v) × (u ≡ w)
  pub bare : (m : ℕ) → m < length superblocks → ((t u : ℕ) → superblock_at (stored_tenant t tenants) u ≡ Some m → ⊥)
      → superblock_of m superblocks ≡ bare_superblock top
