use Rattle.std.proofs.Common.{◌≡◌, ℕ, ◌-◌, ◌*◌, ◌/◌, sym, ap, ◌∙◌, arith}
use Rattle.std.proofs.lemmas.Nat.{one_shl}
use Rattle.model_core.specs.Machine.{slot_of}
use Rattle.shadow_memory.specs.Left.{slot_places}
use Rattle.shadow_memory.proofs.StepsByPlace.{kept_behind}
use Rattle.shadow_memory.proofs.slots.kept_from.Goals as goal

pub returns-then-from-slot : goal.returns-then-from-slot
returns-then-from-slot c j lt =
    let s = c.s-item.result in
    let order = c.args.order in
    let width = one_shl order 32 (omega arith) in
    let at : s.slot ≡ slot_of order c.args.place = sym c.slot.ensures ∙ (sym c.from.ensures ∙ (c.if-from-slot.true ∙ ap (λ (n : ℕ). c.args.place / 4096 / n) width)) in
    let before : c.from-then-from-slot.result * c.places_of-places.result ≡ s.slot * slot_places order =
    ap (λ (n : ℕ). n * c.places_of-places.result) (c.from-then-from-slot.ensures ∙ c.slot-then-from-slot.ensures) ∙ ap (λ (n : ℕ). s.slot * n) c.places_of-places.ensures.value in
    let index : c.saturating_sub.result ≡ c.args.place - s.slot * slot_places order = omega (arith, c.saturating_sub.ensures, c.from-then-from-slot-2.ensures, before) in
    c.kept_from.ensures.kept j lt ∙ kept_behind order c.args.place c.loop-s.s-index c.saturating_sub.result c.args.slots.now s c.requires.whole (omega arith) c.s-item.is at index
    (λ p same. c.loop-s.invariant p (same ∙ ap (λ (n : ℕ). c.args.place / 4096 / n) (sym width))) j (omega (arith, lt, c.kept_from.ensures.len))
