-- Which private machine the memory, the buddy systems and the tables of caches show for a tenant, and when the three agree.
use Rattle.std.specs.Prelude.{◌≡◌, ℕ, ◌+◌, ◌-◌, ◌*◌, ◌/◌, ◌%◌, ◌^◌, ◌<◌, ◌≤◌, ◌==◌, ◌&&◌, Bool, true, false, if◌then◌else◌, List, [], map, Option, Some, None, is_some, unwrap_or, option_map, length}
use Rattle.model_core.specs.declared.limits.TheConstants.{FRAME_BYTES, RECORD_OFFSET, MAX_CACHES}
use Rattle.model_core.specs.Blocks.{block}
use Rattle.model_core.specs.Layouts.{is_small, in_object}
use Rattle.model_core.specs.WellFormed.{RisesFrom}
use Rattle.model_core.specs.Machine.{Slab, Cache, Machine, holds, slot_of, order_in, in_block}
use Rattle.model_core.specs.Slabs.{cache_of, slab_of}
use Rattle.klist_core.specs.Places.{place_at}
use Rattle.space_core.specs.Content as spaces
use Rattle.space_core.specs.Windows.{byte_at}
use Rattle.buddy_core.specs.Content as buddies
use Rattle.slab_tables.specs.declared.cache.Cache as own
use Rattle.slab_tables.specs.declared.cache.Kept.{Kept}
use Rattle.slab_tables.specs.Content.{Content, kept_at, cache_in, cache_at, index_of_cache, layout_numbers}
use Rattle.machine_changes.specs.Records.{is_set, flags, count_true}

-- the machine frame of frame f in the superblock of its slot, or None if the slot has no superblock
abbrev pub frame_under : ℕ → ℕ → Option ℕ → Option ℕ
frame_under top f None = None
frame_under top f (Some m) = Some (m * 2 ^ top + f % 2 ^ top)

-- the machine frame of frame f of tenant t, or None if t does not hold the slot of f
abbrev pub machine_frame_of : ℕ → List (List (Option ℕ)) → ℕ → ℕ → Option ℕ
machine_frame_of top slots t f = frame_under top f (spaces.superblock_at slots t (f / 2 ^ top))

abbrev pub byte_or_zero : Option ℕ → ℕ
byte_or_zero o = unwrap_or o 0

-- byte j of the control record in frame f of tenant t
abbrev pub record_byte : spaces.Content → ℕ → ℕ → ℕ → ℕ
record_byte r t f j = byte_or_zero (byte_at r t (FRAME_BYTES * f + RECORD_OFFSET + j))

-- object i of the slab at frame f of tenant t is live; the record in the frame shows this for small objects, and the stored state
-- for large ones
abbrev pub is_live : spaces.Content → ℕ → own.Cache → Kept → ℕ → ℕ → Bool
is_live r t c kept f i =
    if is_small (layout_numbers c).chunk then is_set (record_byte r t f (i / 8)) (i % 8) else is_set kept.outside i

-- a flag for each object of the slab: true if it is live
abbrev pub live_of : spaces.Content → ℕ → own.Cache → Kept → ℕ → List Bool
live_of r t c kept f = flags (layout_numbers c).count (is_live r t c kept f)

-- the list entry is a slab of the cache with index n, and this slab begins at frame f
abbrev pub is_of_cache : ℕ → ℕ → Option (ℕ × ℕ) → Bool
is_of_cache n f None = false
is_of_cache n f (Some p) = p.0 / 3 == n && p.1 == f

abbrev pub slab_placed : List Bool → ℕ → ℕ → Bool → Option Slab
slab_placed live colour f false = None
slab_placed live colour f true = Some (record { first = f; colour = colour; live = live })

abbrev pub slab_under : spaces.Content → Content → ℕ → ℕ → own.Cache → ℕ → Option ℕ → Option Slab
slab_under r s t n c f None = None
slab_under r s t n c f (Some x) =
    slab_placed (live_of r t c (kept_at s.kept x) f) (kept_at s.kept x).colour f (is_of_cache n f (place_at s.lists.places x))

-- the slab of cache c of tenant t that begins at frame f, or `None` if no slab of the cache begins there
abbrev pub slab_at : spaces.Content → Content → ℕ → ℕ → own.Cache → ℕ → Option Slab
slab_at r s t c cache f = slab_under r s t (index_of_cache t c) cache f (machine_frame_of s.top r.slots t f)

-- a machine frame is given, and a slab begins there
abbrev pub has_slab : Content → Option ℕ → Bool
has_slab s None = false
has_slab s (Some n) = is_some (place_at s.lists.places n)

-- cache c of the tables as a cache of the private machine, with this number and without slabs
abbrev pub bare : ℕ → own.Cache → Cache
bare number c = record { number = number; size = c.layout.size; align = c.layout.align; pattern = c.pattern; made = c.made; slabs = [] }

abbrev pub without_slabs : Cache → Cache
without_slabs c = record c { slabs = [] }

-- a slab of cache c of tenant t begins at frame f, whose machine frame is n
pub record IsSlab (r : spaces.Content) (s : Content) (t c f n : ℕ) (cache : own.Cache) : Type 0 where
  pub cached : cache_at s t c ≡ Some cache
  pub under : machine_frame_of s.top r.slots t f ≡ Some n
  pub listed : is_of_cache (index_of_cache t c) f (place_at s.lists.places n) ≡ true

-- if a slab of this cache begins at frame f, the slab contains the place
abbrev pub is_inside : ℕ → ℕ → own.Cache → Bool
is_inside place f cache = in_block place (block f (layout_numbers cache).order)

-- the parts show m as the private machine of tenant t
pub record ShowsMachine (r : spaces.Content) (b : buddies.Content) (s : Content) (t : ℕ) (m : Machine) : Type 0 where
  pub slots_rise : RisesFrom 0 m.slots
  pub slots : (u : ℕ) → holds m u ≡ is_some (spaces.superblock_at r.slots t u)
  pub blocks_rise : RisesFrom 0 (map (λ x. x.first) m.blocks)
  -- the page blocks are the taken blocks that are not slabs
  pub blocks : (f : ℕ) → order_in m.blocks f
      ≡ (if has_slab s (machine_frame_of s.top r.slots t f) then None else buddies.taken_of (buddies.holding_of t b) f)
  pub caches_rise : RisesFrom 0 (map (λ x. x.number) m.caches)
  pub caches : (c : ℕ) → option_map without_slabs (cache_of m c) ≡ option_map (bare c) (cache_at s t c)
  pub slabs_rise : (c : ℕ) (x : Cache) → cache_of m c ≡ Some x → RisesFrom 0 (map (λ y. y.first) x.slabs)
  pub slabs : (c f : ℕ) (x : Cache) (cache : own.Cache) → cache_of m c ≡ Some x → cache_at s t c ≡ Some cache
      → slab_of x f ≡ slab_at r s t c cache f
  -- outside slabs, exactly the places in held slots have a byte; inside a slab, exactly the places in its objects have one
  pub mapped : (place : ℕ) → ((c f n : ℕ) (cache : own.Cache) → IsSlab r s t c f n cache → is_inside place f cache ≡ false)
      → is_some (m.bytes place) ≡ holds m (slot_of s.top place)
  pub in_slab : (place c f n : ℕ) (cache : own.Cache) → IsSlab r s t c f n cache → is_inside place f cache ≡ true
      → is_some (m.bytes place) ≡ in_object (layout_numbers cache) cache.layout.size (kept_at s.kept n).colour (place - FRAME_BYTES * f)
  pub bytes : (place byte : ℕ) → m.bytes place ≡ Some byte → byte_at r t place ≡ Some byte

-- the slab at machine frame n is a taken block of its tenant, and has as many live objects as its stored state counts
pub record IsAgreed (r : spaces.Content) (b : buddies.Content) (s : Content) (n head key : ℕ) (cache : own.Cache) : Type 0 where
  pub under : machine_frame_of s.top r.slots (head / 3 / MAX_CACHES) key ≡ Some n
  pub taken : buddies.taken_of (buddies.holding_of (head / 3 / MAX_CACHES) b) key ≡ Some (layout_numbers cache).order
  pub counted : (kept_at s.kept n).live ≡ count_true (live_of r (head / 3 / MAX_CACHES) cache (kept_at s.kept n) key)
  -- all bits after the last object's bit are 0, in the control record or in the stored state
  pub rest : (i : ℕ) → (layout_numbers cache).count ≤ i → i < 256 → is_live r (head / 3 / MAX_CACHES) cache (kept_at s.kept n) key i ≡ false

-- the memory, the buddy systems and the tables agree on their sizes, on the superblock in each slot of each tenant, and on each
-- slab
pub record Agree (r : spaces.Content) (b : buddies.Content) (s : Content) : Type 0 where
  pub order : b.top ≡ s.top
  pub unit : r.unit ≡ FRAME_BYTES * 2 ^ s.top
  pub superblocks : length r.owners ≡ b.superblocks
  pub machine_frames : length s.lists.places ≡ b.superblocks * 2 ^ s.top
  pub rows : length r.slots ≡ length b.tenants
  pub tenants : length s.caches ≡ MAX_CACHES * length b.tenants
  pub slots : (t u : ℕ) → buddies.superblock_at (buddies.holding_of t b) u ≡ spaces.superblock_at r.slots t u
  pub slabs : (n head key : ℕ) (cache : own.Cache) → place_at s.lists.places n ≡ Some (head, key)
      → cache_in s.caches (head / 3) ≡ Some cache → IsAgreed r b s n head key cache
