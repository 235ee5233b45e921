-- Slabs and caches (Bonwick's object-caching allocator): kinds of slab, live objects, growth, handing out, freeing.
use Rattle.std.specs.Prelude.{ℕ, ◌+◌, ◌-◌, ◌*◌, ◌%◌, Bool, false, not, List, [], ◌∷◌, map, filter, find, flat_map, replicate, Option, Some, None, is_some, is_none, slice_set, if◌then◌else◌, ◌&&◌, ◌||◌, ◌==◌}
use Rattle.std.specs.List.{list_any, list_all, position_or_len}
use Rattle.model_core.specs.declared.limits.TheConstants.{FRAME_BYTES}
use Rattle.model_core.specs.Blocks.{Block}
use Rattle.model_core.specs.Layouts.{colour_offset, object_place, in_object, pattern_byte}
use Rattle.model_core.specs.Machine.{Slab, Cache, Machine, layout, slab_block, slab_blocks, in_block, put_rising, choice}

-- all objects are live
abbrev pub is_full : Slab → Bool
is_full s = list_all (λ live. live) s.live

-- no object is live
abbrev pub is_empty : Slab → Bool
is_empty s = not (list_any (λ live. live) s.live)

abbrev pub is_partial : Slab → Bool
is_partial s = not (is_full s) && not (is_empty s)

pub record LiveObject : Type 0 where
  pub slab : Slab
  -- its index in the slab
  pub index : ℕ
  -- its first place
  pub place : ℕ

-- the live objects of slab s with index i or more; the list has a flag for each object of the slab from index i on, true if the
-- object is live
abbrev pub live_from : Cache → Slab → ℕ → List Bool → List LiveObject
live_from c s i [] = []
live_from c s i (live ∷ rest) =
    if live then record { slab = s; index = i; place = object_place (layout c) s.first s.colour i } ∷ live_from c s (i + 1) rest
    else live_from c s (i + 1) rest

abbrev pub live_in : Cache → Slab → List LiveObject
live_in c s = live_from c s 0 s.live

-- the live objects of a cache, by rising frame and index
abbrev pub live_objects : Cache → List LiveObject
live_objects c = flat_map (live_in c) c.slabs

-- the cache with this number
abbrev pub cache_of : Machine → ℕ → Option Cache
cache_of m number = find (λ c. c.number == number) m.caches

-- the slab of the cache that begins at this frame
abbrev pub slab_of : Cache → ℕ → Option Slab
slab_of c first = find (λ s. s.first == first) c.slabs

-- the machine with this cache in place of the cache with the same number
abbrev pub with_cache : Cache → Machine → Machine
with_cache c m = record m { caches = map (λ x. if x.number == c.number then c else x) m.caches }

-- the cache with this slab in place of the slab at the same frame
abbrev pub with_slab : Slab → Cache → Cache
with_slab s c = record c { slabs = map (λ x. if x.first == s.first then s else x) c.slabs }

-- the slab with object i marked live or not live
abbrev pub with_live : ℕ → Bool → Slab → Slab
with_live i live s = record s { live = slice_set s.live i live }

-- the slab that the cache makes next, at this frame
abbrev pub new_slab : Cache → ℕ → Slab
new_slab c first =
    record { first = first; colour = colour_offset c.align c.made (layout c); live = replicate (layout c).count false }

-- the byte at a place of a new slab: every object is constructed, and other places have no byte
unfoldable pub fresh_byte : Cache → Slab → ℕ → Option ℕ
fresh_byte c s place =
    if in_object (layout c) c.size s.colour (place - FRAME_BYTES * s.first)
    then Some (pattern_byte c.pattern ((place - FRAME_BYTES * s.first - s.colour) % (layout c).chunk)) else None

-- the cache with a new slab at this frame
unfoldable pub grown_cache : ℕ → Cache → Cache
grown_cache first c = record c {
  made = (c.made + 1) % (layout c).colours;
  slabs = put_rising (λ s. s.first) (new_slab c first) c.slabs;
}

-- growth: the block at this frame becomes a slab of the cache
unfoldable pub grown : ℕ → Cache → Machine → Machine
grown first c m = with_cache (grown_cache first c) (record m {
  bytes = λ place.
      if in_block place (slab_block c (new_slab c first)) then fresh_byte c (new_slab c first) place else m.bytes place;
})

-- the partial slab if there is one, else the empty slab if there is one
unfoldable pub slab_to_use : Option Slab → Option Slab → Option Slab
slab_to_use (Some partial) empty = Some partial
slab_to_use None empty = empty

-- the index of the first object that is not live
abbrev pub next_object : Slab → ℕ
next_object s = position_or_len not s.live

-- what the bytes become when the slabs on these blocks are freed: each place of the blocks reads as zero
abbrev pub zeroed : List Block → (ℕ → Option ℕ) → ℕ → Option ℕ
zeroed blocks bytes place = if list_any (in_block place) blocks then Some 0 else bytes place

abbrev pub without_empty : Cache → Cache
without_empty c = record c { slabs = filter (λ s. not (is_empty s)) c.slabs }

-- the blocks of the cache's empty slabs
abbrev pub empty_blocks : Cache → List Block
empty_blocks c = map (slab_block c) (filter is_empty c.slabs)

-- the machine after all empty slabs of all caches are freed
unfoldable pub reaped : Machine → Machine
reaped m = record m { caches = map without_empty m.caches; bytes = zeroed (flat_map empty_blocks m.caches) m.bytes }

-- The machine that serves a request for a block of order k: m with all empty slabs freed, if no block is found in m but one is
-- found then, and otherwise m itself.
unfoldable pub by_need : ℕ → ℕ → Machine → Machine
by_need order k m = if is_some (choice order m k) || is_none (choice order (reaped m) k) then m else reaped m

-- the first frame of the block that a request for order k gets if empty slabs are freed on demand
abbrev pub choice_by_need : ℕ → ℕ → Machine → Option ℕ
choice_by_need order k m = choice order (by_need order k m) k

-- the machine without the cache, after its slabs are freed
unfoldable pub destroyed : Cache → Machine → Machine
destroyed c m = record m { caches = filter (λ x. not (x.number == c.number)) m.caches; bytes = zeroed (slab_blocks c) m.bytes }
