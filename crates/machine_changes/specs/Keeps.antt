-- A call for one tenant changes nothing that other tenants have.
use Rattle.std.specs.Prelude.{◌≡◌, ◌≢◌, ℕ, Some}
use Rattle.klist_core.specs.Places.{place_at}
use Rattle.space_core.specs.Content as spaces
use Rattle.space_core.specs.Laws.{IsSameFor, SpareStays}
use Rattle.buddy_core.specs.Content as buddies
use Rattle.slab_tables.specs.Content.{Content, kept_at, cache_at}
use Rattle.machine_changes.specs.Shows.{machine_frame_of}

-- tenant t has the same caches as before, and each machine frame in its slots has the same slab, if any, and the same stored
-- state
pub record IsSameCaches (t : ℕ) (r : spaces.Content) (s s' : Content) : Type 0 where
  pub top : s'.top ≡ s.top
  pub caches : (c : ℕ) → cache_at s' t c ≡ cache_at s t c
  pub lists : (f n : ℕ) → machine_frame_of s.top r.slots t f ≡ Some n → place_at s'.lists.places n ≡ place_at s.lists.places n
  pub kept : (f n : ℕ) → machine_frame_of s.top r.slots t f ≡ Some n → kept_at s'.kept n ≡ kept_at s.kept n

-- tenant t keeps everything: its slots, its bytes with the control records, its taken blocks, its caches and its slabs
pub record Keeps (r r' : spaces.Content) (b b' : buddies.Content) (s s' : Content) (t : ℕ) : Type 0 where
  pub space : IsSameFor t r r'
  pub buddy : buddies.holding_of t b' ≡ buddies.holding_of t b
  pub slabs : IsSameCaches t r s s'

-- A call for tenant t changes nothing that other tenants have. In the memory only bytes change, and only in superblocks that
-- have an owner. No buddy system changes except the tenant's own.
pub record Spares (t : ℕ) (r r' : spaces.Content) (b b' : buddies.Content) (s s' : Content) : Type 0 where
  pub others : (u : ℕ) → u ≢ t → Keeps r r' b b' s s' u
  pub space : r' ≡ record r { banks = r'.banks }
  pub spare : SpareStays r r'
  pub buddy : b' ≡ buddies.with_holding t (buddies.holding_of t b') b
