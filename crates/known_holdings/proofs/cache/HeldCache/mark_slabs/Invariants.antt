use Rattle.std.proofs.Common.{◌≡◌, ℕ, ◌+◌, ◌^◌, ◌<◌, false, length, slice_index_or}
use Rattle.std.specs.Prelude.{◌||◌}
use Rattle.std.specs.List.{list_any}
use Rattle.std.specs.List.Sorted.{IsNonDecreasing}
use Rattle.known_holdings.proofs.SlabMarks.{has_over}
use Rattle.known_holdings.proofs.cache.HeldCache.mark_slabs.Given as goal

-- The remaining live objects are in ascending order. A frame of the slot is marked or in the slab of one of them exactly if it
-- was marked at the start or is in the slab of some live object.
abbrev pub invariant-slabs : goal.invariant-slabs
invariant-slabs l = record {
  rise : IsNonDecreasing l.rest;
  marked : (f : ℕ) → f < 2 ^ l.slot.order → (slice_index_or l.taken f false || list_any (has_over l.self (l.slot.first + f)) l.rest)
      ≡ (slice_index_or l.fn.taken f false || list_any (has_over l.self (l.slot.first + f)) l.self.live);
}

abbrev pub decreases-slabs : goal.decreases-slabs
decreases-slabs l = length l.rest
