-- What the calls change for one tenant in the memory, the buddy systems and the tables of caches.
use Rattle.std.specs.Prelude.{◌≡◌, ◌≢◌, ℕ, ◌+◌, ◌-◌, ◌*◌, ◌%◌, ◌<◌, Bool, true, false, not, if◌then◌else◌, List, Some, None, map, filter, flat_map, slice_set}
use Rattle.model_core.specs.declared.limits.TheConstants.{FRAME_BYTES, RECORD_BYTES, RECORD_OFFSET}
use Rattle.model_core.specs.Blocks.{Block, with_taken}
use Rattle.model_core.specs.Layouts.{is_small, in_object, pattern_byte}
use Rattle.model_core.specs.Machine.{Cache, Machine, slab_block}
use Rattle.model_core.specs.Slabs.{zeroed}
use Rattle.klist_core.specs.Places.{place_at}
use Rattle.space_core.specs.Content as spaces
use Rattle.space_core.specs.Windows.{byte_at}
use Rattle.buddy_core.specs.Content as buddies
use Rattle.slab_tables.specs.declared.cache.Cache as own
use Rattle.slab_tables.specs.declared.kind.Kind.TheVariants.{Empty}
use Rattle.slab_tables.specs.Content.{Content, kept_at, cache_at, kind_number, head_of, layout_numbers}
use Rattle.slab_tables.specs.Changes.{fresh_kept, made_more}
use Rattle.machine_changes.specs.Shows.{machine_frame_of, record_byte, live_of, is_of_cache, has_slab, is_inside, IsSlab}

-- an object: its cache, the first frame and the machine frame of its slab, and its index in the slab
pub record Found : Type 0 where
  pub cache : own.Cache
  pub first : ℕ
  pub machine_frame : ℕ
  pub index : ℕ

abbrev pub found : own.Cache → ℕ → ℕ → ℕ → Found
found cache first machine_frame index = record { cache = cache; first = first; machine_frame = machine_frame; index = index }

-- Object o of cache c of tenant t becomes live if v is true, or free if v is false. Only the slab's control record, its stored
-- state except for the colour, and the list that the slab is in may change. If the objects are large, no byte of the memory
-- changes.
pub record IsMarked (r r' : spaces.Content) (s s' : Content) (t c : ℕ) (o : Found) (v : Bool) : Type 0 where
  pub top : s'.top ≡ s.top
  pub slots : (u : ℕ) → spaces.superblock_at r'.slots t u ≡ spaces.superblock_at r.slots t u
  pub caches : (d : ℕ) → cache_at s' t d ≡ cache_at s t d
  pub listed : (n f : ℕ) → is_of_cache n f (place_at s'.lists.places o.machine_frame)
      ≡ is_of_cache n f (place_at s.lists.places o.machine_frame)
  pub lists : (n : ℕ) → n ≢ o.machine_frame → place_at s'.lists.places n ≡ place_at s.lists.places n
  pub kept : (n : ℕ) → n ≢ o.machine_frame → kept_at s'.kept n ≡ kept_at s.kept n
  pub colour : (kept_at s'.kept o.machine_frame).colour ≡ (kept_at s.kept o.machine_frame).colour
  pub live : live_of r' t o.cache (kept_at s'.kept o.machine_frame) o.first
      ≡ slice_set (live_of r t o.cache (kept_at s.kept o.machine_frame) o.first) o.index v
  pub bytes : (place : ℕ) → ((k : ℕ) → k < RECORD_BYTES → place ≢ FRAME_BYTES * o.first + RECORD_OFFSET + k) → byte_at r' t place ≡ byte_at r t place
  pub large : is_small (layout_numbers o.cache).chunk ≢ true → (place : ℕ) → byte_at r' t place ≡ byte_at r t place

-- The slabs of tenant t whose first frames `gone` selects are freed: they are in no list, their blocks are not taken, and their
-- bytes are zero. All other slabs, blocks and bytes of t are unchanged. The freed slabs may be one slab, slabs of one cache, or
-- slabs of several caches.
pub record IsReturned (r r' : spaces.Content) (b b' : buddies.Content) (s s' : Content) (t : ℕ) (gone : ℕ → Bool) : Type 0 where
  pub top : s'.top ≡ s.top
  pub slots : (u : ℕ) → spaces.superblock_at r'.slots t u ≡ spaces.superblock_at r.slots t u
  pub caches : (c : ℕ) → cache_at s' t c ≡ cache_at s t c
  pub lists : (f n : ℕ) → machine_frame_of s.top r.slots t f ≡ Some n
      → place_at s'.lists.places n ≡ (if gone f then None else place_at s.lists.places n)
  pub kept : (f n : ℕ) → machine_frame_of s.top r.slots t f ≡ Some n → kept_at s'.kept n ≡ kept_at s.kept n
  pub begun : (f : ℕ) → gone f ≡ true → has_slab s (machine_frame_of s.top r.slots t f) ≡ true
  pub taken : (f : ℕ) → buddies.taken_of (buddies.holding_of t b') f
      ≡ (if gone f then None else buddies.taken_of (buddies.holding_of t b) f)
  pub zeroed : (place c f n : ℕ) (cache : own.Cache) → IsSlab r s t c f n cache → gone f ≡ true → is_inside place f cache ≡ true
      → byte_at r' t place ≡ Some 0
  pub bytes : (place : ℕ)
      → ((c f n : ℕ) (cache : own.Cache) → IsSlab r s t c f n cache → gone f ≡ true → is_inside place f cache ≡ false)
      → byte_at r' t place ≡ byte_at r t place

-- `returned gone m` is the private machine m after the slabs that `gone` selects are freed

abbrev pub kept_slabs : (ℕ → Bool) → Cache → Cache
kept_slabs gone c = record c { slabs = filter (λ s. not (gone s.first)) c.slabs }

abbrev pub gone_blocks : (ℕ → Bool) → Cache → List Block
gone_blocks gone c = map (slab_block c) (filter (λ s. gone s.first) c.slabs)

abbrev pub returned : (ℕ → Bool) → Machine → Machine
returned gone m = record m {
  caches = map (kept_slabs gone) m.caches;
  bytes = zeroed (flat_map (gone_blocks gone) m.caches) m.bytes;
}

-- The block at frame f, whose machine frame is n, becomes the next slab of cache c of tenant t. The slab is empty, and every
-- object has the cache's pattern. If the objects are small, the slab's control record is all zeros. The bytes outside the slab
-- are unchanged.
pub record IsGrown (r r' : spaces.Content) (b b' : buddies.Content) (s s' : Content) (t c : ℕ) (cache : own.Cache) (f n : ℕ) : Type 0 where
  pub top : s'.top ≡ s.top
  pub slots : (u : ℕ) → spaces.superblock_at r'.slots t u ≡ spaces.superblock_at r.slots t u
  pub cached : cache_at s t c ≡ Some cache
  pub made : cache_at s' t c ≡ Some (made_more cache)
  pub caches : (d : ℕ) → d ≢ c → cache_at s' t d ≡ cache_at s t d
  pub under : machine_frame_of s.top r.slots t f ≡ Some n
  pub vacant : place_at s.lists.places n ≡ None
  pub listed : place_at s'.lists.places n ≡ Some (head_of t c (kind_number Empty), f)
  pub fresh : kept_at s'.kept n ≡ fresh_kept cache
  pub lists : (x : ℕ) → x ≢ n → place_at s'.lists.places x ≡ place_at s.lists.places x
  pub kept : (x : ℕ) → x ≢ n → kept_at s'.kept x ≡ kept_at s.kept x
  pub clear : is_small (layout_numbers cache).chunk ≡ true → (j : ℕ) → j < 32 → record_byte r' t f j ≡ 0
  pub taken : (g : ℕ) → buddies.taken_of (buddies.holding_of t b') g
      ≡ with_taken (buddies.taken_of (buddies.holding_of t b)) f (layout_numbers cache).order g
  pub constructed : (place : ℕ) → is_inside place f cache ≡ true
      → in_object (layout_numbers cache) cache.layout.size (fresh_kept cache).colour (place - FRAME_BYTES * f) ≡ true
      → byte_at r' t place ≡ Some (pattern_byte cache.pattern ((place - FRAME_BYTES * f - (fresh_kept cache).colour) % (layout_numbers cache).chunk))
  pub bytes : (place : ℕ) → is_inside place f cache ≡ false → byte_at r' t place ≡ byte_at r t place
