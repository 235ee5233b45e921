use Rattle.std.proofs.Common.{◌≡◌, ℕ, ◌+◌, ◌^◌, ◌<◌, false, take, slice_index_or}
use Rattle.std.specs.Prelude.{◌||◌}
use Rattle.std.specs.List.{list_any}
use Rattle.model_core.specs.Blocks.{block}
use Rattle.model_core.specs.Operations.{overlaps}
use Rattle.known_holdings.proofs.vacancy.mark_blocks.Given as goal

-- a frame of the slot is marked exactly if it was marked at the start or is in a block that the loop has passed
abbrev pub invariant-loop-other : goal.invariant-loop-other
invariant-loop-other l = (f : ℕ) → f < 2 ^ l.slot.order → slice_index_or l.taken f false
    ≡ (slice_index_or l.fn.taken f false || list_any (overlaps (block (l.slot.first + f) 0)) (take l.other-index l.blocks))
