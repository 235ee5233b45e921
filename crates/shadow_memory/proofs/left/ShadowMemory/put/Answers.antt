use Rattle.std.proofs.Common.{◌≡◌, ℕ, ◌+◌, ◌<◌, true, List, length, refl, sym, ap, subst, arith}
use Rattle.std.specs.Vec.{with_items}
use Rattle.std.proofs.lemmas.List.{with_items_is}
use Rattle.promise_core.specs.Bytes.{with_bytes}
use Rattle.known_holdings.specs.Holders.{shown_holder}
use Rattle.shadow_memory.specs.Left.{LeftSlot, Left, left_slots, has_place, Becomes}
use Rattle.shadow_memory.specs.Inside.{AreSlots, AreStepped, within}
use Rattle.shadow_memory.proofs.StepsByPlace.{slots_after}
use Rattle.shadow_memory.proofs.ReplyChanges.{near_put, put}
use Rattle.shadow_memory.proofs.left.ShadowMemory.put.Goals as goal

pub invariant_of-self : goal.invariant_of-self
invariant_of-self c =
    let ss = c.self.inside.slots.items in
    let ts = c.change_slots.new.slots in
    let order = c.self.inside.order in
    let bytes = c.args.bytes.now in
    let after = subst (λ (xs : List LeftSlot). AreStepped order (within c.from-begin.result (c.from-begin.result + length bytes)
    (λ place cell. with_bytes (shown_holder c.args.holder) c.args.place bytes (λ _. cell) place)) xs ts) c.deref_mut.ensures.value c.change_slots.ensures in
    let items = with_items_is c.self.inside.slots ts (omega (arith, ap length c.deref_mut.ensures.value, c.self.inside.slots.ok.0)) in (
      c.self.invariant.0,
      subst (λ (xs : List LeftSlot). AreSlots order xs c.extend_reach.new.reach) (sym items)
          (slots_after order c.self.inside.reach c.extend_reach.new.reach _ ss ts after c.self.invariant.1
          (near_put c.self.inside.reach c.extend_reach.new.reach (shown_holder c.args.holder) c.args.place bytes c.from-begin.result (c.from-begin.result + length bytes)
          c.extend_reach.ensures.more c.requires.near (λ n p is. let far = c.extend_reach.ensures.near n p is in omega (arith, far, c.from-begin.ensures)))),
    )

pub returns : goal.returns
returns c =
    let ss = c.self.inside.slots.items in
    let ts = c.change_slots.new.slots in
    let order = c.self.inside.order in
    let bytes = c.args.bytes.now in
    let items = with_items_is c.self.inside.slots ts (omega (arith, ap length c.deref_mut.ensures.value, c.self.inside.slots.ok.0)) in
    let after = subst (λ (xs : List LeftSlot). AreStepped order (within c.from-begin.result (c.from-begin.result + length bytes)
    (λ place cell. with_bytes (shown_holder c.args.holder) c.args.place bytes (λ _. cell) place)) xs ts) c.deref_mut.ensures.value c.change_slots.ensures in
    let new : Left = record { order = order; slots = (with_items c.self.inside.slots ts).items } in
    let stepped = subst (λ (xs : List LeftSlot). AreStepped order (within c.from-begin.result (c.from-begin.result + length bytes)
    (λ place cell. with_bytes (shown_holder c.args.holder) c.args.place bytes (λ _. cell) place)) ss xs) (sym items) after in
    let held = subst (λ (old : Left). (j : ℕ) → j < length c.args.bytes.now → has_place old (c.args.place + j) ≡ true) (sym c.self.view_is) c.requires.held in
    subst (λ (old : Left). Becomes old (left_slots old) (with_bytes (shown_holder c.args.holder) c.args.place c.args.bytes.now) new) c.self.view_is
    (put (record { order = order; slots = ss }) new (shown_holder c.args.holder) c.args.place bytes c.from-begin.result (c.from-begin.result + length bytes)
    c.from-begin.ensures (omega (arith, c.from-begin.ensures)) refl held stepped)
