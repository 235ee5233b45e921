-- Laws about page blocks, ranges in reach, and bytes that are read and written. One law says that the memory, the buddy systems
-- and the tables of caches together show at most one machine for a tenant.
use Rattle.std.specs.Prelude.{◌≡◌, ◌↔◌, ◌⊎◌, ℕ, ◌+◌, ◌*◌, ◌/◌, ◌%◌, ◌^◌, ◌<◌, ◌≤◌, true, false, List, Some, IsSome, length, filter_map, slice_index, slice_index_or}
use Rattle.std.specs.List.{range_with_len}
use Rattle.model_core.specs.declared.limits.TheConstants.{FRAME_BYTES, RECORD_OFFSET}
use Rattle.model_core.specs.Blocks.{block, HasFrame, IsTaken}
use Rattle.model_core.specs.Layouts.{is_small}
use Rattle.model_core.specs.Machine.{Slab, Cache, Machine}
use Rattle.model_core.specs.Slabs.{cache_of, slab_of}
use Rattle.model_core.specs.Operations.{without_block, written}
use Rattle.model_core.specs.Reach.{in_reach}
use Rattle.space_core.specs.Content as spaces
use Rattle.space_core.specs.Windows.{home_of, with_window, byte_at}
use Rattle.space_core.specs.Laws.{AreBytesAt, SpaceLaws}
use Rattle.buddy_core.specs.Content as buddies
use Rattle.slab_tables.specs.declared.cache.Cache as own
use Rattle.slab_tables.specs.Content.{Content, IsSlabs, kept_at, layout_numbers}
use Rattle.machine_changes.specs.Records.{is_set}
use Rattle.machine_changes.specs.Shows.{machine_frame_of, live_of, has_slab, IsSlab, ShowsMachine, Agree}
use Rattle.machine_changes.specs.Keeps.{Spares}
use Rattle.machine_changes.specs.Steady.{IsSteady}
use Rattle.machine_changes.specs.Changes.{Found}
use Rattle.machine_changes.specs.Objects.{HasRange}

-- the buddy systems after the release of the block of tenant t that begins at frame f
abbrev pub released : ℕ → ℕ → buddies.Content → buddies.Content
released t f b = buddies.with_holding t (buddies.without_block f (buddies.holding_of t b)) b

-- after the block at frame f is released, the parts show the old machine without the page block at f
abbrev pub ReleasedShows : Type 0
ReleasedShows = (r : spaces.Content) (b : buddies.Content) (s : Content) (t f : ℕ) (m : Machine)
    → ShowsMachine r b s t m → ShowsMachine r (released t f b) s t (without_block f m)

-- if the block at frame f is not a slab, the parts still agree after its release, and other tenants keep everything
abbrev pub ReleasedAgrees : Type 0
ReleasedAgrees = (r : spaces.Content) (b : buddies.Content) (s : Content) (t f : ℕ)
    → Agree r b s → has_slab s (machine_frame_of s.top r.slots t f) ≡ false
    → Agree r (released t f b) s × Spares t r r b (released t f b) s s

-- the range lies inside one taken block of tenant t that is not a slab
pub record IsInPage (r : spaces.Content) (b : buddies.Content) (s : Content) (t place len : ℕ) : Type 0 where
  pub first : ℕ
  pub order : ℕ
  pub taken : buddies.taken_of (buddies.holding_of t b) first ≡ Some order
  pub page : has_slab s (machine_frame_of s.top r.slots t first) ≡ false
  pub begins : FRAME_BYTES * first ≤ place
  pub ends : place + len ≤ FRAME_BYTES * (first + 2 ^ order)

-- the range is not empty, and lies inside a page block or inside a live object of tenant t
pub record IsInReach (r : spaces.Content) (b : buddies.Content) (s : Content) (t place len : ℕ) : Type 0 where
  pub some : 0 < len
  pub inside : IsInPage r b s t place len ⊎ ((o : Found) × HasRange r s t place len o)

-- a range is in reach in the machine if and only if it is in reach according to the parts
abbrev pub ReachMeets : Type 0
ReachMeets = (r : spaces.Content) (b : buddies.Content) (s : Content) (t place len : ℕ) (m : Machine)
    → IsSteady r b s t → ShowsMachine r b s t m → (in_reach m place len ≡ true) ↔ IsInReach r b s t place len

-- if a range that is not empty begins in a taken block, it lies inside a page block if and only if that taken block is not a slab
-- and the range ends inside it
abbrev pub BlockDecides : Type 0
BlockDecides = (r : spaces.Content) (b : buddies.Content) (s : Content) (t place len first order : ℕ)
    → IsSteady r b s t → 0 < len → buddies.taken_of (buddies.holding_of t b) first ≡ Some order → HasFrame (block first order) (place / FRAME_BYTES)
    → IsInPage r b s t place len
    ↔ ((has_slab s (machine_frame_of s.top r.slots t first) ≡ false) × (place + len ≤ FRAME_BYTES * (first + 2 ^ order)))

-- if a range that is not empty begins in no taken block, the range lies inside no page block
abbrev pub NoBlockDecides : Type 0
NoBlockDecides = (r : spaces.Content) (b : buddies.Content) (s : Content) (t place len : ℕ)
    → 0 < len → (IsTaken (buddies.taken_of (buddies.holding_of t b)) (place / FRAME_BYTES) → ⊥) → IsInPage r b s t place len → ⊥

-- a range in reach lies in one slot of the tenant
abbrev pub ReachHeld : Type 0
ReachHeld = (r : spaces.Content) (b : buddies.Content) (s : Content) (t place len : ℕ)
    → Agree r b s → IsSteady r b s t → IsInReach r b s t place len → IsSome (home_of r t place len)

-- at each place of a range in reach, the machine has the memory's byte
abbrev pub ReachBytes : Type 0
ReachBytes = (r : spaces.Content) (b : buddies.Content) (s : Content) (t place len : ℕ) (m : Machine)
    → IsSteady r b s t → ShowsMachine r b s t m → IsInReach r b s t place len
    → (p : ℕ) → place ≤ p → p < place + len → m.bytes p ≡ byte_at r t p

-- in the machine, a read of a range in reach returns the bytes that the memory has there
abbrev pub ReachReads : Type 0
ReachReads = (r : spaces.Content) (b : buddies.Content) (s : Content) (t place len : ℕ) (bytes : List ℕ) (m : Machine)
    → IsSteady r b s t → ShowsMachine r b s t m → IsInReach r b s t place len
    → AreBytesAt r t place len bytes → filter_map m.bytes (range_with_len place len) ≡ bytes

-- the memory after tenant t writes these bytes from the place on
abbrev pub stored : ℕ → ℕ → List ℕ → spaces.Content → spaces.Content
stored t place new r = with_window r t place (length new) new

-- after tenant t writes bytes over a range in reach, the parts show the old machine with these bytes written
abbrev pub WrittenShows : Type 0
WrittenShows = (r : spaces.Content) (b : buddies.Content) (s : Content) (t place : ℕ) (new : List ℕ) (m : Machine)
    → SpaceLaws r → Agree r b s → IsSteady r b s t → IsInReach r b s t place (length new)
    → ShowsMachine r b s t m → ShowsMachine (stored t place new r) b s t (record m { bytes = written place new m.bytes })

-- each slab of the tenant has the same live objects as before, the parts agree, and other tenants keep everything
pub record IsWritten (r r' : spaces.Content) (b : buddies.Content) (s : Content) (t : ℕ) : Type 0 where
  pub live : (c f n : ℕ) (cache : own.Cache) → IsSlab r s t c f n cache
      → live_of r' t cache (kept_at s.kept n) f ≡ live_of r t cache (kept_at s.kept n) f
  pub agree : Agree r' b s
  pub spares : Spares t r r' b b s s

-- after a write over a range in reach, the slabs have the same live objects, the parts agree, and other tenants keep everything
abbrev pub WrittenAgrees : Type 0
WrittenAgrees = (r : spaces.Content) (b : buddies.Content) (s : Content) (t place : ℕ) (new : List ℕ)
    → IsSlabs s → SpaceLaws r → Agree r b s → IsSteady r b s t → IsInReach r b s t place (length new)
    → IsWritten r (stored t place new r) b s t

-- the parts show at most one machine for a tenant
abbrev pub OneMachine : Type 0
OneMachine = (r : spaces.Content) (b : buddies.Content) (s : Content) (t : ℕ) (m n : Machine)
    → ShowsMachine r b s t m → ShowsMachine r b s t n → m ≡ n

-- Byte i of the control record in machine frame n. The control record is the last 32 bytes of the frame.
abbrev pub record_at : spaces.Content → Content → ℕ → ℕ → ℕ
record_at r s n i = slice_index (spaces.bank r.banks (n / 2 ^ s.top)) (FRAME_BYTES * (n % 2 ^ s.top) + RECORD_OFFSET + i)

-- in the control record of a slab of small objects, the bit of each object that is live in the machine is 1, and all other bits
-- are 0
abbrev pub RecordMeets : Type 0
RecordMeets = (r : spaces.Content) (b : buddies.Content) (s : Content) (t c f n : ℕ) (cache : own.Cache) (m : Machine) (x : Cache) (y : Slab)
    → Agree r b s → ShowsMachine r b s t m → IsSlab r s t c f n cache → is_small (layout_numbers cache).chunk ≡ true
    → cache_of m c ≡ Some x → slab_of x f ≡ Some y
    → (i j : ℕ) → i < 32 → j < 8 → is_set (record_at r s n i) j ≡ slice_index_or y.live (8 * i + j) false
