-- The changes that the calls make to the tables of caches and slabs.
use Rattle.std.specs.Prelude.{◌≡◌, ℕ, ◌+◌, ◌-◌, ◌*◌, ◌/◌, ◌%◌, ◌^◌, ◌<◌, ◌==◌, Bool, List, Option, Some, None, length, slice_index, slice_set, if◌then◌else◌, IsSome}
use Rattle.model_core.specs.declared.limits.TheConstants.{MAX_CACHES}
use Rattle.model_core.specs.Layouts.{colour_offset}
use Rattle.layout_core.specs.Cut.{Cut}
use Rattle.klist_core.specs.Places.{Placed, place_at, is_in, inserted, removed, replaced}
use Rattle.slab_tables.specs.declared.cache.Cache.{Cache}
use Rattle.slab_tables.specs.declared.cache.Kept.{Kept}
use Rattle.slab_tables.specs.Content.{Content, kept_at, cache_in, cache_at, index_of_cache, layout_numbers, kind_of, head_of}

-- the stored state of the slab that the cache makes next: it has the next colour and no live object
abbrev pub fresh_kept : Cache → Kept
fresh_kept cache = record { colour = colour_offset cache.layout.align cache.made (layout_numbers cache); live = 0; outside = 0 }

-- the cache after it has made one more slab; `made` is the number of slabs that it has ever made, modulo the number of colours
abbrev pub made_more : Cache → Cache
made_more cache = record cache { made = (cache.made + 1) % (layout_numbers cache).colours }

-- The tables after cache c of tenant t makes an empty slab. The entry of this cache was `cache`. The slab begins at frame `first`
-- of the tenant, which is machine frame n.
abbrev pub with_new_slab : Content → ℕ → ℕ → Cache → ℕ → ℕ → Content
with_new_slab s t c cache first n = record s {
  lists = inserted s.lists (head_of t c 2) n first;
  kept = slice_set s.kept n (fresh_kept cache);
  caches = slice_set s.caches (index_of_cache t c) (Some (made_more cache));
}

-- The tables after the number of live objects of the slab at machine frame n is set to `count`. The slab moves to the list of its
-- new kind, and the number of live objects of its cache changes by as much as that of the slab.
abbrev pub with_count : Content → ℕ → ℕ → Cache → ℕ → ℕ → ℕ → Content
with_count s t c cache first n count = record s {
  lists = record s.lists { places = slice_set s.lists.places n (Some (head_of t c (kind_of (layout_numbers cache).count count), first)) };
  kept = slice_set s.kept n (record (kept_at s.kept n) { live = count });
  live = slice_set s.live (index_of_cache t c) (slice_index s.live (index_of_cache t c) + count - (kept_at s.kept n).live);
}

-- The tables after `outside` of the slab at machine frame n is replaced. For a slab of large objects, the bits of `outside` say
-- which objects are live.
abbrev pub with_outside : Content → ℕ → ℕ → Content
with_outside s n outside = record s { kept = slice_set s.kept n (record (kept_at s.kept n) { outside = outside }) }

-- the tables after the slab at machine frame n is removed from its list
abbrev pub without_slab : Content → ℕ → Content
without_slab s n = record s { lists = removed s.lists n }

-- the tables after the entry of cache c of tenant t is replaced by `cache`; `None` removes the cache
abbrev pub with_cache : Content → ℕ → ℕ → Option Cache → Content
with_cache s t c cache = record s { caches = slice_set s.caches (index_of_cache t c) cache }

-- c is the least number below 32 that no cache of tenant t has
pub record IsLeastNumber (s : Content) (t c : ℕ) : Type 0 where
  pub below : c < MAX_CACHES
  pub vacant : cache_at s t c ≡ None
  pub least : (d : ℕ) → d < c → IsSome (cache_at s t d)

-- tenant t has a cache with each number from 0 to 31
abbrev pub IsAllUsed : Content → ℕ → Type 0
IsAllUsed s t = (d : ℕ) → d < MAX_CACHES → IsSome (cache_at s t d)

-- a cache with this layout and pattern that has made no slab
abbrev pub new_cache : Cut → List ℕ → Cache
new_cache layout pattern = record { layout = layout; pattern = pattern; made = 0 }

-- in s', list h is empty and every other list is as in s
pub record IsEmptied (s s' : Placed) (h : ℕ) : Type 0 where
  pub heads : s'.heads ≡ s.heads
  pub machine_frames : length s'.places ≡ length s.places
  pub places : (n : ℕ) → place_at s'.places n ≡ (if is_in h (place_at s.places n) then None else place_at s.places n)

-- The place of a slab, `Some (list, first frame)`, becomes `None` if the cache that has this list is removed. The indexes of the
-- removed caches satisfy `gone`.
abbrev pub unless_gone : (ℕ → Bool) → Option (ℕ × ℕ) → Option (ℕ × ℕ)
unless_gone gone None = None
unless_gone gone (Some p) = if gone (p.0 / 3) then None else Some p

-- In s', the caches whose indexes satisfy `gone` are removed with their slabs. Everything else is as in s, except that `live` may
-- differ.
pub record IsCleared (s s' : Content) (gone : ℕ → Bool) : Type 0 where
  pub top : s'.top ≡ s.top
  pub heads : s'.lists.heads ≡ s.lists.heads
  pub machine_frames : length s'.lists.places ≡ length s.lists.places
  pub places : (n : ℕ) → place_at s'.lists.places n ≡ unless_gone gone (place_at s.lists.places n)
  pub kept : s'.kept ≡ s.kept
  pub tenants : length s'.caches ≡ length s.caches
  pub caches : (n : ℕ) → cache_in s'.caches n ≡ (if gone n then None else cache_in s.caches n)

-- In s', tenant t has no cache and no slab. Everything else is as in s, except that `live` may differ.
abbrev pub IsReset : Content → Content → ℕ → Type 0
IsReset s s' t = IsCleared s s' (λ n. n / MAX_CACHES == t)

-- the tables after the slab at machine frame `from`, if there is one, is moved to machine frame `to` with its stored state
abbrev pub with_slab_moved : Content → ℕ → ℕ → Content
with_slab_moved s from to = record s { lists = replaced s.lists from to; kept = slice_set s.kept to (kept_at s.kept from) }

-- In s', the slabs of superblock `from` have moved to the same frames of superblock `to`, with their stored states. The other
-- superblocks and the caches are as in s.
pub record IsMoved (s s' : Content) (from to : ℕ) : Type 0 where
  pub top : s'.top ≡ s.top
  pub heads : s'.lists.heads ≡ s.lists.heads
  pub machine_frames : length s'.lists.places ≡ length s.lists.places
  pub caches : s'.caches ≡ s.caches
  pub live : s'.live ≡ s.live
  pub left : (i : ℕ) → i < 2 ^ s.top → place_at s'.lists.places (from * 2 ^ s.top + i) ≡ None
  pub moved : (i : ℕ) → i < 2 ^ s.top → place_at s'.lists.places (to * 2 ^ s.top + i) ≡ place_at s.lists.places (from * 2 ^ s.top + i)
  pub kept : (i : ℕ) → i < 2 ^ s.top → kept_at s'.kept (to * 2 ^ s.top + i) ≡ kept_at s.kept (from * 2 ^ s.top + i)
  pub others : (n : ℕ) → (n / 2 ^ s.top ≡ from → ⊥) → (n / 2 ^ s.top ≡ to → ⊥)
      → (place_at s'.lists.places n ≡ place_at s.lists.places n) × (kept_at s'.kept n ≡ kept_at s.kept n)
