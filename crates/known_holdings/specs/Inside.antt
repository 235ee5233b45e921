-- Conditions on the fields of a stored cache, and on the stored lists of page blocks and caches.
use Rattle.std.specs.Prelude.{◌≡◌, ℕ, ◌+◌, ◌-◌, ◌*◌, ◌%◌, ◌^◌, ◌≤◌, true, List, map}
use Rattle.std.specs.List.{All}
use Rattle.std.specs.List.Sorted.{IsNonDecreasingBy}
use Rattle.model_core.specs.declared.limits.TheConstants.{FRAME_BYTES, MAX_SIZE, MAX_ORDER}
use Rattle.model_core.specs.Blocks.{Block}
use Rattle.model_core.specs.Layouts.{is_alignment}
use Rattle.model_core.specs.WellFormed.{RisesFrom}
use Rattle.promise_core.specs.Holdings.{KnownCache, slab_around}

-- a cache can have objects of this size, alignment and chunk, in slabs of this order and with this number of objects
pub record IsKnownLayout (size align chunk order count : ℕ) : Type 0 where
  pub some : 1 ≤ size
  pub most : size ≤ MAX_SIZE
  pub alignment : is_alignment align ≡ true
  pub chunked : size ≤ chunk
  pub aligned : chunk % align ≡ 0
  pub small : order ≤ MAX_ORDER
  pub counted : 1 ≤ count
  pub fits : count * chunk ≤ FRAME_BYTES * 2 ^ order

-- an object at the place can be object `i` of the slab that contains the place: all `count` objects then lie within this slab
abbrev pub IsObjectAt : KnownCache → ℕ → ℕ → Type 0
IsObjectAt c place i = let slab = slab_around c place in let origin = place - i * c.chunk in
    (i * c.chunk ≤ place) × (FRAME_BYTES * slab.first ≤ origin)
    × (origin + (c.count - 1) * c.chunk + c.size ≤ FRAME_BYTES * (slab.first + 2 ^ slab.order))

-- the live page blocks are in ascending order of their first frames, and none has more than 2 ^ longest frames
pub record ArePages (longest : ℕ) (pages : List Block) : Type 0 where
  pub most : longest ≤ MAX_ORDER
  pub rise : IsNonDecreasingBy (λ b. b.first) pages
  pub short : All (λ b. b.order ≤ longest) pages

-- the caches are in ascending order of their numbers
abbrev pub AreListed : List KnownCache → Type 0
AreListed caches = RisesFrom 0 (map (λ c. c.number) caches)
