use Rattle.std.proofs.Common.{List, length, sym, ap, subst, arith}
use Rattle.std.proofs.lemmas.List.{with_items_is}
use Rattle.shadow_memory.specs.Left.{LeftSlot}
use Rattle.shadow_memory.specs.Inside.{AreSlots, AreStepped, within}
use Rattle.shadow_memory.proofs.StepsByPlace.{slots_after, near_within}
use Rattle.shadow_memory.proofs.left.ShadowMemory.change.Goals as goal

pub invariant_of-self : goal.invariant_of-self
invariant_of-self g c =
    let ss = c.self.inside.slots.items in
    let order = c.self.inside.order in
    let reach = c.self.inside.reach in
    let step = g.C.Change.step c.args.change.now in
    let after = subst (λ (xs : List LeftSlot). AreStepped order (within c.args.begin c.args.end step) xs c.change_slots.new.slots) c.deref_mut.ensures.value c.change_slots.ensures in
    let items = with_items_is c.self.inside.slots c.change_slots.new.slots (omega (arith, ap length c.deref_mut.ensures.value, c.self.inside.slots.ok.0)) in (
      c.self.invariant.0,
      subst (λ (xs : List LeftSlot). AreSlots order xs reach) (sym items)
          (slots_after order reach reach (within c.args.begin c.args.end step) ss c.change_slots.new.slots after c.self.invariant.1
          (near_within c.args.begin c.args.end step c.requires reach)),
    )
