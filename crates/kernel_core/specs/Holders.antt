-- The live object or page block that a byte lies in.
use Rattle.std.specs.Prelude.{◌≡◌, ℕ, ◌+◌, ◌*◌, ◌^◌, ◌<◌, ◌≤◌, Bool, List, ◌++◌, Option, Some, None, MatchOption, length, map, flat_map, filter, find, if◌then◌else◌}
use Rattle.model_core.specs.declared.limits.TheConstants.{FRAME_BYTES, MAX_CACHES}
use Rattle.model_core.specs.Blocks.{Block}
use Rattle.model_core.specs.Machine.{Cache, Machine}
use Rattle.model_core.specs.Slabs.{LiveObject, live_objects}
use Rattle.model_core.specs.Reach.{is_within, in_reach}
use Rattle.model_core.specs.WellFormed.{IsWellFormed}
use Rattle.world_core.specs.Limits.{cache_limit}
use Rattle.slab_core.specs.Lending.{HasObject}
use Rattle.kernel_core.specs.Content.{KernelContent}
use Rattle.kernel_core.specs.Shows.{ShowsMachine}
use Rattle.kernel_core.specs.Stores.{IsKernel}
use Rattle.kernel_core.specs.Lending.{HasBlock}
use Rattle.kernel_core.specs.declared.holders.Holder.{Holder}

-- a live object of cache c begins at `begin`, has this many bytes, and contains the place
pub record HasObjectAround (m : Machine) (place c begin bytes : ℕ) : Type 0 where
  pub number : c < MAX_CACHES
  pub object : HasObject m c begin bytes
  pub from : begin ≤ place
  pub below : place < begin + bytes

-- The holder contains the place. If it has no cache, it is a live page block of the machine. If it has a cache, it is a live
-- object of that cache.
abbrev pub IsHolder : Machine → ℕ → Holder → Type 0
IsHolder m place holder = MatchOption holder.cache
    (HasBlock m place holder.place holder.bytes)
    (λ c. HasObjectAround m place c holder.place holder.bytes)

abbrev pub block_holder : Block → Holder
block_holder b = record { cache = None; place = FRAME_BYTES * b.first; bytes = FRAME_BYTES * 2 ^ b.order }

abbrev pub object_holder : Cache → LiveObject → Holder
object_holder c object = record { cache = Some c.number; place = object.place; bytes = c.size }

-- the live page blocks and the live objects of the machine
abbrev pub live_holders : Machine → List Holder
live_holders m = map block_holder m.blocks ++ flat_map (λ c. map (object_holder c) (live_objects c)) m.caches

-- the byte at the place is a byte of the holder
abbrev pub has_byte : ℕ → Holder → Bool
has_byte place holder = is_within place 1 holder.place holder.bytes

-- the live page block or live object that has the byte at the place
abbrev pub holder_at : Machine → ℕ → Option Holder
holder_at m place = find (has_byte place) (live_holders m)

-- In a well formed machine, exactly one live page block or live object has a byte that is in reach. None has a byte that is not
-- in reach.
abbrev pub OneHolder : Type 0
OneHolder = (limit order : ℕ) (m : Machine) → IsWellFormed limit order m → (place : ℕ)
    → length (filter (has_byte place) (live_holders m)) ≡ (if in_reach m place 1 then 1 else 0)

-- each machine that a kernel shows for one of its tenants is well formed
abbrev pub ShownWellFormed : Type 0
ShownWellFormed = (k : KernelContent) (t : ℕ) (m : Machine) → IsKernel k → t < k.tenants → ShowsMachine k t m
    → IsWellFormed cache_limit k.order m
