use Rattle.std.proofs.Common.{arith}
use Rattle.shadow_memory.proofs.StepsByPlace.{stepped, slot_ends}
use Rattle.shadow_memory.proofs.slots.change_slots.Goals as goal

pub change-requires : goal.change-requires
change-requires g c = slot_ends c.args.order c.loop-slot.slot-index c.args.slots.now c.loop-slot.slots c.slot-item.result c.from.result
    c.places_of-places.result c.requires.whole (omega arith)
    (c.loop-slot.invariant.rest c.loop-slot.slot-index c.slot-item.result (omega arith)) (cc (c.from.ensures, c.slot.ensures, c.slot-item.is))
    c.places_of-places.ensures.value

pub returns : goal.returns
returns g c = stepped c.args.order _ c.args.slots.now c.loop-slot.slots (omega arith)
    (λ k d lt. c.loop-slot.invariant.done k d (omega arith)) c.requires.whole
