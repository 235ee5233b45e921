use Rattle.std.proofs.Common.{not, eqb, List, sym, subst}
use Rattle.std.specs.Prelude.{filter}
use Rattle.model_core.specs.Machine.{slot_of}
use Rattle.promise_core.specs.Bytes.{without}
use Rattle.shadow_memory.specs.Left.{LeftSlot, Left, left_slots, Becomes}
use Rattle.shadow_memory.specs.Inside.{AreSlots}
use Rattle.shadow_memory.proofs.SlotsHeld.{slots_taken, taken_back}
use Rattle.shadow_memory.proofs.left.ShadowMemory.take_back.Goals as goal

pub invariant_of-self : goal.invariant_of-self
invariant_of-self c = (
  c.self.invariant.0,
  subst (λ (xs : List LeftSlot). AreSlots c.self.inside.order xs c.self.inside.reach) (sym c.drop_slot.ensures)
      (slots_taken c.self.inside.order c.args.slot c.self.inside.slots.items c.self.inside.reach c.self.invariant.1),
)

pub returns : goal.returns
returns c =
    subst (λ (old : Left). Becomes old (filter (λ v. not (eqb v c.args.slot)) (left_slots old)) (without (λ place holder. eqb (slot_of old.order place) c.args.slot))
    (record { order = c.self.inside.order; slots = c.drop_slot.new.slots.items })) c.self.view_is
    (subst (λ (xs : List LeftSlot). Becomes (record { order = c.self.inside.order; slots = c.self.inside.slots.items })
    (filter (λ v. not (eqb v c.args.slot)) (left_slots (record { order = c.self.inside.order; slots = c.self.inside.slots.items }))) (without (λ place holder. eqb (slot_of c.self.inside.order place) c.args.slot))
    (record { order = c.self.inside.order; slots = xs })) (sym c.drop_slot.ensures)
    (taken_back (record { order = c.self.inside.order; slots = c.self.inside.slots.items }) c.args.slot))
