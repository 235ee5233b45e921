-- What keeps a block from standing, if it shares no frame with a page block, and what keeps an object from being taken.
use Rattle.std.specs.Prelude.{ℕ, ◌/◌, ◌%◌, ◌^◌, ◌==◌, not, if◌then◌else◌, List, [], ◌∷◌, find, length, nat_le, Option, Some, None, option_map}
use Rattle.std.specs.Option.{option_map_or, option_or}
use Rattle.model_core.specs.Blocks.{Block}
use Rattle.model_core.specs.Operations.{overlaps}
use Rattle.promise_core.specs.Holdings.{KnownCache, Holdings, are_apart, can_be_taken, has_slot, known_cache, live_beside, slab_around}
use Rattle.reply_judge.specs.declared.faults.BlockFault.{BlockFault}
use Rattle.reply_judge.specs.declared.faults.ObjectFault.{ObjectFault}

-- the first of these caches with a live object whose slab shares a frame with the block, and the first such object
abbrev pub slab_in_way : Block → List KnownCache → Option BlockFault
slab_in_way b [] = None
slab_in_way b (c ∷ cs) =
    option_map_or (λ place. Some (BlockFault.Slab c.number place)) (find (λ p. overlaps b (slab_around c p)) c.live) (slab_in_way b cs)

-- the block is misaligned, or else its first frame is in a slot that is not held, or else a slab is in the way; slots have
-- 2 ^ order frames
unfoldable pub block_fault : ℕ → Holdings → Block → Option BlockFault
block_fault order h b = if not (b.first % 2 ^ b.order == 0) then Some BlockFault.Misaligned
    else (if not (has_slot h (b.first / 2 ^ order)) then Some (BlockFault.Outside (b.first / 2 ^ order)) else slab_in_way b h.caches)

-- what keeps this block from becoming the slab of an object
unfoldable pub slab_fault : ℕ → Holdings → Block → Option ObjectFault
slab_fault order h slab = option_map_or (λ page. Some (ObjectFault.Page page)) (find (overlaps slab) h.pages)
    (option_map (λ fault. ObjectFault.Unfit slab fault) (block_fault order h slab))

-- what the live objects `beside` in the slab of an object at the place keep it from: it overlaps one of them, or they are as many
-- as the slab has
abbrev pub beside_fault : KnownCache → ℕ → List ℕ → Option ObjectFault
beside_fault c place beside = option_map_or (λ p. Some (ObjectFault.Over p)) (find (λ p. not (are_apart c place p)) beside)
    (if nat_le c.count (length beside) then Some ObjectFault.Full else None)

-- what keeps an object of the cache from being taken at the place
unfoldable pub take_fault : ℕ → Holdings → KnownCache → ℕ → Option ObjectFault
take_fault order h c place = if not (place % c.align == 0) then Some ObjectFault.Misaligned
    else (if length (live_beside c place) == 0 then slab_fault order h (slab_around c place) else beside_fault c place (live_beside c place))

-- an object of the cache may not be taken at the place; this is a fault of the grid if nothing else is
abbrev pub grid_fault : ℕ → Holdings → KnownCache → ℕ → Option ObjectFault
grid_fault order h c place = if can_be_taken order h c place then None else Some ObjectFault.OffGrid

-- what keeps an object of the cache with this number from being taken at the place
abbrev pub object_fault : ℕ → Holdings → ℕ → ℕ → Option ObjectFault
object_fault order h number place = option_map_or (λ c. option_or (take_fault order h c place) (grid_fault order h c place)) (known_cache h number) None
