use Rattle.std.proofs.Common.{◌≡◌, ◌+◌, ◌*◌, ◌^◌, ◌≤◌, ℕ, false, eqb, List, ◌∷◌, None, replicate, sym, ap, ◌∙◌, subst}
use Rattle.std.specs.List.{list_any}
use Rattle.shadow_memory.specs.Left.{LeftSlot, Left, left_slots, slot_places, Becomes}
use Rattle.shadow_memory.specs.Inside.{AreSlots}
use Rattle.shadow_memory.proofs.SlotsHeld.{slots_granted, granted}
use Rattle.shadow_memory.proofs.left.ShadowMemory.grant.Goals as goal

pub invariant_of-self-2 : goal.invariant_of-self-2
invariant_of-self-2 c =
    let ss = c.self.inside.slots.items in
    let order = c.self.inside.order in
    let fresh : ℕ → LeftSlot = λ n. record { slot = c.args.slot; cells = replicate n None } in
    let items : c.insert.new.self.items ≡ fresh (slot_places order) ∷ ss = c.in_ok-insert.ensures.items
    ∙ ap (λ (s : LeftSlot). s ∷ ss) (c.in_ok-bytes.ensures ∙ ap fresh c.places_of-places.ensures.value) in
    let low = subst (λ (l : Left). (c.args.slot + 1) * 2 ^ l.order * 4096 ≤ 2 ^ 32) (sym c.self.view_is) c.requires.low in (
      c.self.invariant.0,
      subst (λ (xs : List LeftSlot). AreSlots order xs c.self.inside.reach) (sym items)
          (slots_granted order c.args.slot ss c.self.inside.reach c.self.invariant.1 low),
    )

pub returns-clause-granted : goal.returns-clause-granted
returns-clause-granted c =
    let ss = c.self.inside.slots.items in
    let order = c.self.inside.order in
    let was : Left = record { order = order; slots = ss } in
    let fresh : ℕ → LeftSlot = λ n. record { slot = c.args.slot; cells = replicate n None } in
    let items : c.insert.new.self.items ≡ fresh (slot_places order) ∷ ss = c.in_ok-insert.ensures.items
    ∙ ap (λ (s : LeftSlot). s ∷ ss) (c.in_ok-bytes.ensures ∙ ap fresh c.places_of-places.ensures.value) in
    let new = subst (λ (l : Left). list_any (λ v. eqb v c.args.slot) (left_slots l) ≡ false) (sym c.self.view_is) c.requires.new in
    subst (λ (old : Left). Becomes old (c.args.slot ∷ left_slots old) (λ cells. cells) (record { order = order; slots = c.insert.new.self.items })) c.self.view_is
    (subst (λ (xs : List LeftSlot). Becomes was (c.args.slot ∷ left_slots was) (λ cells. cells) (record { order = order; slots = xs })) (sym items)
    (granted was c.args.slot new))
