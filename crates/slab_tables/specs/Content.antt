-- The tables of the caches and slabs of all tenants. A slab is named by the machine frame at which it begins.
use Rattle.std.specs.Prelude.{◌≡◌, ℕ, ◌+◌, ◌*◌, ◌/◌, ◌%◌, ◌^◌, ◌<◌, ◌≤◌, ◌==◌, Bool, true, false, nat_lt, if◌then◌else◌, List, [], ◌∷◌, Option, Some, None, length, replicate, slice_index, slice_index_or}
use Rattle.model_core.specs.declared.limits.TheConstants.{MAX_CACHES, WIDE_ORDER, WIDE_SUPERBLOCKS, WIDE_TENANTS, WIDE_FRAMES}
use Rattle.model_core.specs.Layouts.{Layout, IsLayout, is_size, is_alignment, is_pattern}
use Rattle.layout_core.specs.Cut.{numbers_of}
use Rattle.layout_core.specs.Objects.{IsColour}
use Rattle.klist_core.specs.Places.{Placed, in_three, place_at}
use Rattle.slab_tables.specs.declared.cache.Cache.{Cache}
use Rattle.slab_tables.specs.declared.cache.Kept.{Kept}
use Rattle.slab_tables.specs.declared.kind.Kind.{Kind}

pub record Content : Type 0 where
  -- a superblock has 2 ^ top frames
  pub top : ℕ
  -- for each machine frame, the list of the slab that begins there, and the number of the same frame among the frames of the
  -- slab's tenant; each cache has three lists, one for each kind of slab
  pub lists : Placed
  -- for each machine frame, the stored state of the slab that begins there, if one does
  pub kept : List Kept
  -- for each tenant and cache number, the cache, if there is one
  pub caches : List (Option Cache)
  -- for each tenant and cache number, how many objects of the cache are live
  pub live : List ℕ

-- the stored state of a machine frame at which no slab has begun yet
abbrev pub blank : Kept
blank = record { colour = 0; live = 0; outside = 0 }

abbrev pub kept_at : List Kept → ℕ → Kept
kept_at kept n = slice_index_or kept n blank

abbrev pub cache_in : List (Option Cache) → ℕ → Option Cache
cache_in caches n = slice_index_or caches n None

-- the index of cache c of tenant t among the caches of all tenants
abbrev pub index_of_cache : ℕ → ℕ → ℕ
index_of_cache t c = MAX_CACHES * t + c

-- cache c of tenant t, or `None` if there is none
abbrev pub cache_at : Content → ℕ → ℕ → Option Cache
cache_at s t c = if nat_lt c MAX_CACHES then cache_in s.caches (index_of_cache t c) else None

-- the tables have a tenant t
abbrev pub IsTenant : Content → ℕ → Type 0
IsTenant s t = index_of_cache t MAX_CACHES ≤ length s.caches

-- the numbers of the cache's layout
abbrev pub layout_numbers : Cache → Layout
layout_numbers c = numbers_of c.layout

-- the kind of a slab that has `count` objects, `live` of them live: 0 full, 1 partial, 2 empty
abbrev pub kind_of : ℕ → ℕ → ℕ
kind_of count live = if live == count then 0 else (if live == 0 then 2 else 1)

-- The number of a kind. It is also the position of the kind's list in the three lists of a cache. The first of three lists is
-- loose, that is, not linked in the order of its keys, so this is the list of the full slabs.
abbrev pub kind_number : Kind → ℕ
kind_number Kind.Full = 0
kind_number Kind.Partial = 1
kind_number Kind.Empty = 2

-- the number of the list in which cache c of tenant t has its slabs of this kind
abbrev pub head_of : ℕ → ℕ → ℕ → ℕ
head_of t c kind = 3 * index_of_cache t c + kind

-- A slab with the stored state `kept` has a colour of the cache's layout. Its number of live objects is at most the number of
-- objects in a slab of the cache, and list `head` is for slabs of the kind that this number of live objects determines.
pub record IsListed (kept : Kept) (cache : Cache) (head : ℕ) : Type 0 where
  pub kind : in_three head ≡ kind_of (layout_numbers cache).count kept.live
  pub few : kept.live ≤ (layout_numbers cache).count
  pub colour : IsColour cache.layout kept.colour

pub record IsTableCache (c : Cache) : Type 0 where
  pub size : is_size c.layout.size ≡ true
  pub align : is_alignment c.layout.align ≡ true
  pub layout : IsLayout c.layout.size c.layout.align (layout_numbers c)
  pub pattern : is_pattern c.pattern ≡ true
  pub made : c.made < (layout_numbers c).colours

-- the place is in a list of the cache with index n
abbrev pub is_of_index : ℕ → Option (ℕ × ℕ) → Bool
is_of_index n None = false
is_of_index n (Some p) = p.0 / 3 == n

-- how many objects are live in the slabs of the cache with index n
abbrev pub live_total : ℕ → List (Option (ℕ × ℕ)) → List Kept → ℕ
live_total n [] kept = 0
live_total n (p ∷ places) [] = 0
live_total n (p ∷ places) (k ∷ kept) = (if is_of_index n p then k.live else 0) + live_total n places kept

-- the invariant of the tables
pub record IsSlabs (s : Content) : Type 0 where
  pub order : s.top ≤ WIDE_ORDER
  pub paired : length s.kept ≡ length s.lists.places
  pub small : length s.lists.places ≤ WIDE_FRAMES
  pub superblocks : length s.lists.places ≤ WIDE_SUPERBLOCKS * 2 ^ s.top
  pub few : length s.caches ≤ MAX_CACHES * WIDE_TENANTS
  pub heads : s.lists.heads ≡ length s.caches * 3
  pub totals : length s.live ≡ length s.caches
  pub fits : (n : ℕ) (c : Cache) → cache_in s.caches n ≡ Some c → IsTableCache c
  pub standing : (n head key : ℕ) → place_at s.lists.places n ≡ Some (head, key)
      → (c : Cache) × (cache_in s.caches (head / 3) ≡ Some c) × IsListed (kept_at s.kept n) c head
  pub counted : (n : ℕ) → n < length s.caches → slice_index s.live n ≡ live_total n s.lists.places s.kept

-- for each tenant, `below` has a number, at most 32, that is greater than the number of each of the tenant's caches
pub record AreBelow (caches : List (Option Cache)) (below : List ℕ) : Type 0 where
  pub tenants : length caches ≡ MAX_CACHES * length below
  pub few : (t : ℕ) → slice_index below t ≤ MAX_CACHES
  pub none : (n : ℕ) → slice_index below (n / MAX_CACHES) ≤ n % MAX_CACHES → cache_in caches n ≡ None

-- the invariant of the tables and of the numbers in `below`
pub record AreTables (s : Content) (below : List ℕ) : Type 0 where
  pub slabs : IsSlabs s
  pub ends : AreBelow s.caches below

-- tables without caches or slabs
abbrev pub empty_tables : ℕ → ℕ → ℕ → Content
empty_tables top superblocks tenants = record {
  top = top;
  lists = record { heads = MAX_CACHES * tenants * 3; places = replicate (superblocks * 2 ^ top) None };
  kept = replicate (superblocks * 2 ^ top) blank;
  caches = replicate (MAX_CACHES * tenants) None;
  live = replicate (MAX_CACHES * tenants) 0;
}

-- a slab of cache c of tenant t begins at frame `first` of the tenant, which is machine frame n
pub record IsPlacedIn (s : Content) (t c first n : ℕ) : Type 0 where
  pub kind : ℕ
  pub few : kind < 3
  pub placed : place_at s.lists.places n ≡ Some (head_of t c kind, first)
