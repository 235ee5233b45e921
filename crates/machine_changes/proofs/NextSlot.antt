-- The least slot that a tenant does not hold is the machine's next slot.
use Rattle.std.proofs.Common.{ap, ◌∙◌, arith}
use Rattle.std.specs.Prelude.{is_some}
use Rattle.model_core.specs.Operations.{next_slot}
use Rattle.machine_changes.specs.Slots.{NextMeets}
use Rattle.machine_changes.proofs.SlotLists.{least_missing_is}

pub next_meets : NextMeets
unfolding next_slot
next_meets r b s t u m h least =
    least_missing_is 0 u m.slots h.slots_rise (omega arith) (h.slots u ∙ ap is_some least.vacant) (λ v low less. h.slots v ∙ least.below v less)
