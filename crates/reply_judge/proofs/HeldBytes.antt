-- Bytes that have a holder are in slots that the tenant holds.
use Rattle.std.proofs.Common.{◌≡◌, ℕ, ◌+◌, ◌<◌, true, not, Option, Some, None, is_some, refl, ap, sym, ◌∙◌}
use Rattle.model_core.specs.Machine.{slot_of}
use Rattle.promise_core.specs.Bytes.{Holder, holder_of}
use Rattle.promise_core.specs.Holdings.{Holdings}
use Rattle.promise_core.proofs.LeftInHeldSlots.{range_held}
use Rattle.shadow_memory.specs.Left.{Left, has_place}
use Rattle.reply_judge.specs.Seen.{LieInSlots}

-- if a range has a holder, each place of the range is in a slot that the tenant holds
pub places_held : (h : Holdings) (left : Left) → LieInSlots h left → (place len : ℕ) (holder : Holder) → holder_of h place len ≡ Some holder
    → (j : ℕ) → j < len → has_place left (place + j) ≡ true
places_held h left sound place len holder is j lt =
    sound.slots (slot_of left.order (place + j)) ∙ range_held left.order h sound.laid sound.gridded place len holder is j lt
