use Rattle.std.proofs.Common.{◌≡◌, ℕ, ◌+◌, ◌^◌, ◌<◌, false, take, slice_index_or}
use Rattle.std.specs.Prelude.{◌||◌}
use Rattle.std.specs.List.{list_any}
use Rattle.model_core.specs.Blocks.{block}
use Rattle.model_core.specs.Operations.{overlaps}
use Rattle.promise_core.specs.Holdings.{slab_around}
use Rattle.known_holdings.proofs.vacancy.mark_caches.Given as goal

-- a frame of the slot is marked exactly if it was marked at the start or is in the slab of a live object of a cache that the loop
-- has passed
abbrev pub invariant-loop-cache : goal.invariant-loop-cache
invariant-loop-cache l = (f : ℕ) → f < 2 ^ l.slot.order → slice_index_or l.taken f false ≡ (slice_index_or l.fn.taken f false
    || list_any (λ c. list_any (λ p. overlaps (block (l.slot.first + f) 0) (slab_around c p)) c.live) (take l.cache-index l.caches))
