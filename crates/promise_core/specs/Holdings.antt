-- What a tenant has, according to the replies. No policy is assumed: the allocator decides which block a request gets, and when
-- it frees empty slabs.
use Rattle.std.specs.Prelude.{ℕ, ◌+◌, ◌-◌, ◌*◌, ◌/◌, ◌%◌, ◌^◌, Bool, not, List, ◌++◌, map, filter, find, flat_map, length, Option, nat_le, nat_lt, if◌then◌else◌, ◌&&◌, ◌||◌, ◌==◌}
use Rattle.std.specs.List.{list_any, list_all, range_with_len}
use Rattle.model_core.specs.declared.limits.TheConstants.{FRAME_BYTES}
use Rattle.model_core.specs.Blocks.{Block, block, around, slot_block}
use Rattle.model_core.specs.Choice.{is_any_below}
use Rattle.model_core.specs.Operations.{overlaps}

-- a cache, as the command that made it and the reply describe it: a slab has 2 ^ order frames and `count` objects,
-- which begin `chunk` bytes apart; `live` has the first places of the cache's live objects, in ascending order
pub record KnownCache : Type 0 where
  pub number : ℕ
  pub size : ℕ
  pub align : ℕ
  pub pattern : List ℕ
  pub chunk : ℕ
  pub order : ℕ
  pub count : ℕ
  pub live : List ℕ

-- the held slots, the live page blocks by first frame, and the caches by number, all in ascending order
pub record Holdings : Type 0 where
  pub slots : List ℕ
  pub pages : List Block
  pub caches : List KnownCache

abbrev pub has_slot : Holdings → ℕ → Bool
has_slot h u = list_any (λ v. v == u) h.slots

abbrev pub known_cache : Holdings → ℕ → Option KnownCache
known_cache h number = find (λ c. c.number == number) h.caches

-- the holdings after `change` is applied to the live objects of the cache with this number
abbrev pub with_live_places : ℕ → (List ℕ → List ℕ) → Holdings → Holdings
with_live_places number change h = record h {
  caches = map {B = KnownCache} (λ (c : KnownCache). if c.number == number then record c { live = change c.live } else c) h.caches;
}

-- the slab that contains the object of the cache at this place
abbrev pub slab_around : KnownCache → ℕ → Block
slab_around c place = around (place / FRAME_BYTES) c.order

-- the taken blocks that are known: page blocks, and the slabs of live objects
unfoldable pub known_blocks : Holdings → List Block
known_blocks h = h.pages ++ flat_map (λ c. map (slab_around c) c.live) h.caches

-- no frame of the block is taken
abbrev pub is_vacant : Holdings → Block → Bool
is_vacant h b = not (list_any (overlaps b) (known_blocks h))

-- the block is aligned, lies in a held slot, and no frame of it is taken; slots have 2 ^ order frames
unfoldable pub can_stand : ℕ → Holdings → Block → Bool
can_stand order h b = (nat_le b.order order && b.first % 2 ^ b.order == 0) && (has_slot h (b.first / 2 ^ order) && is_vacant h b)

-- the aligned blocks of order k in slot u
abbrev pub blocks_of_slot : ℕ → ℕ → ℕ → List Block
blocks_of_slot order k u = map (λ i. block (i * 2 ^ k) k) (range_with_len (u * 2 ^ (order - k)) (2 ^ (order - k)))

-- the aligned blocks of order k that are in held slots and have no taken frame
unfoldable pub vacant_blocks : ℕ → Holdings → ℕ → List Block
vacant_blocks order h k = filter (is_vacant h) (flat_map (blocks_of_slot order k) h.slots)

abbrev pub has_vacant_block : ℕ → Holdings → ℕ → Bool
has_vacant_block order h k = nat_lt 0 (length (vacant_blocks order h k))

-- a frame of the slot is taken
abbrev pub is_slot_busy : ℕ → Holdings → ℕ → Bool
is_slot_busy order h u = not (is_vacant h (slot_block order u))

-- the live objects in the slab around this place
abbrev pub live_beside : KnownCache → ℕ → List ℕ
live_beside c place = filter (λ p. (slab_around c p).first == (slab_around c place).first) c.live

-- all objects in the slab around this place are live
abbrev pub is_slab_full : KnownCache → ℕ → Bool
is_slab_full c place = length (live_beside c place) == c.count

-- objects of the cache at these two places share no byte
abbrev pub are_apart : KnownCache → ℕ → ℕ → Bool
are_apart c p q = nat_le (p + c.size) q || nat_le (q + c.size) p

-- if slab b had its first object at `origin`, all objects of the slab would fit into it, and one of them would begin at each of
-- these places
abbrev pub is_grid : KnownCache → Block → ℕ → List ℕ → Bool
is_grid c b origin places =
    (nat_le (FRAME_BYTES * b.first) origin && nat_le (origin + (c.count - 1) * c.chunk + c.size) (FRAME_BYTES * (b.first + 2 ^ b.order)))
    && list_all (λ p. nat_le origin p && ((p - origin) % c.chunk == 0 && nat_lt ((p - origin) / c.chunk) c.count)) places

-- a take may return an object of the cache at this place
unfoldable pub can_be_taken : ℕ → Holdings → KnownCache → ℕ → Bool
can_be_taken order h c place = let beside = live_beside c place in
    (place % c.align == 0 && (nat_lt 0 (length beside) || can_stand order h (slab_around c place)))
    && (nat_lt (length beside) c.count && (list_all (are_apart c place) beside
    && is_any_below (λ i. nat_le (i * c.chunk) place && is_grid c (slab_around c place) (place - i * c.chunk) beside) c.count))
