-- The slots of shadow memory after a slot is added or removed.
use Rattle.std.proofs.Common.{◌≡◌, ℕ, ◌+◌, ◌-◌, ◌*◌, ◌^◌, ◌≤◌, Bool, true, false, not, List, [], ◌∷◌, get_or, Option, Some, None, replicate, inl, inr, refl, sym, ap, ◌∙◌, subst, arith}
use Rattle.std.specs.Prelude.{if◌then◌else◌, ◌==◌, filter}
use Rattle.std.specs.List.{list_any, AllByRecursion}
use Rattle.std.specs.Option.{option_and_then}
use Rattle.std.proofs.lemmas.Bool.{eqb-true, eqb-false, cases_lt}
use Rattle.std.proofs.lemmas.List.{get_or-replicate, get_or_past, length-replicate}
use Rattle.model_core.specs.Machine.{slot_of}
use Rattle.promise_core.specs.Bytes.{Cell, without}
use Rattle.known_holdings.proofs.ComputedTests.{same_at}
use Rattle.shadow_memory.specs.Left.{LeftSlot, Left, slot_places, left_in, slots_in, left_slots, Becomes, left_at}
use Rattle.shadow_memory.specs.Inside.{IsNear, IsSlotWhole, AreSlots}
use Rattle.shadow_memory.proofs.StepsByPlace.{none_left}
use Rattle.shadow_memory.proofs.ReplyChanges.{near_removed}

-- the slots without slot `u`
abbrev pub less : ℕ → List LeftSlot → List LeftSlot
less u ss = filter (λ (s : LeftSlot). not (s.slot == u)) ss

pub slots_less : (u : ℕ) (ss : List LeftSlot) → slots_in (less u ss) ≡ filter (λ v. not (v == u)) (slots_in ss)
slots_less u [] = refl
slots_less u (s ∷ ss) = go (s.slot == u) (slots_less u ss)
  where
    go : (b : Bool) → slots_in (less u ss) ≡ filter (λ v. not (v == u)) (slots_in ss) → slots_in (if not b then s ∷ less u ss else less u ss)
        ≡ (if not b then s.slot ∷ filter (λ v. not (v == u)) (slots_in ss) else filter (λ v. not (v == u)) (slots_in ss))
    go true rest = rest
    go false rest = ap (λ (us : List ℕ). s.slot ∷ us) rest

whole_less : (order u : ℕ) (ss : List LeftSlot) → AllByRecursion (IsSlotWhole order) ss → AllByRecursion (IsSlotWhole order) (less u ss)
whole_less order u [] w = tt
whole_less order u (s ∷ ss) w = go (s.slot == u) (whole_less order u ss w.1)
  where
    go : (b : Bool) → AllByRecursion (IsSlotWhole order) (less u ss) → AllByRecursion (IsSlotWhole order) (if not b then s ∷ less u ss else less u ss)
    go true rest = rest
    go false rest = (w.0, rest)

gone : (x : Option Cell) → option_and_then (λ (cell : Cell). if true then None else Some cell) x ≡ None
gone None = refl
gone (Some cell) = refl

kept : (x : Option Cell) → option_and_then (λ (cell : Cell). if false then None else Some cell) x ≡ x
kept None = refl
kept (Some cell) = refl

-- without slot `u`, nothing is left at the places of slot `u`, and what was left at all other places is unchanged
left_less : (order u place : ℕ) (ss : List LeftSlot)
    → left_in order (less u ss) place ≡ option_and_then (λ (cell : Cell). if slot_of order place == u then None else Some cell) (left_in order ss place)
left_less order u place [] = refl
left_less order u place (s ∷ ss) =
    go (s.slot == u) (s.slot == slot_of order place) (slot_of order place == u) refl refl refl (left_less order u place ss)
  where
    here : Option Cell
    here = get_or s.cells (place - s.slot * slot_places order) None

    go : (a b c : Bool) → (s.slot == u) ≡ a → (s.slot == slot_of order place) ≡ b → (slot_of order place == u) ≡ c
        → left_in order (less u ss) place ≡ option_and_then (λ (cell : Cell). if c then None else Some cell) (left_in order ss place)
        → left_in order (if not a then s ∷ less u ss else less u ss) place
        ≡ option_and_then (λ (cell : Cell). if c then None else Some cell) (if b then here else left_in order ss place)
    go true true true is at it rest = rest ∙ (gone (left_in order ss place) ∙ sym (gone here))
    go true true false is at it rest = absurd (eqb-false (slot_of order place) u it (sym (eqb-true s.slot (slot_of order place) at) ∙ eqb-true s.slot u is))
    go true false c is at it rest = rest
    go false true true is at it rest = absurd (eqb-false s.slot u is (eqb-true s.slot (slot_of order place) at ∙ eqb-true (slot_of order place) u it))
    go false true false is at it rest = ap (λ (t : Bool). if t then here else left_in order (less u ss) place) at ∙ sym (kept here)
    go false false c is at it rest = ap (λ (t : Bool). if t then here else left_in order (less u ss) place) at ∙ rest

pub slots_taken : (order u : ℕ) (ss : List LeftSlot) (reach : List ℕ) → AreSlots order ss reach → AreSlots order (less u ss) reach
slots_taken order u ss reach are = record {
  whole = whole_less order u ss are.whole;
  near = λ place. subst (IsNear reach place) (sym (left_less order u place ss))
      (near_removed (λ holder. slot_of order place == u) reach place (left_in order ss place) (are.near place));
}

pub taken_back : (old : Left) (u : ℕ) → Becomes old (filter (λ v. not (v == u)) (left_slots old)) (without (λ place holder. slot_of old.order place == u))
    (record { order = old.order; slots = less u old.slots })
taken_back old u = record {
  order = refl;
  slots = slots_less u old.slots;
  cells = λ i place. left_less old.order u place old.slots i;
}

-- if a slot in which nothing was left is added, the slots keep their invariant
pub slots_granted : (order u : ℕ) (ss : List LeftSlot) (reach : List ℕ) → AreSlots order ss reach → (u + 1) * 2 ^ order * 4096 ≤ 2 ^ 32
    → AreSlots order (record { slot = u; cells = replicate (slot_places order) None } ∷ ss) reach
slots_granted order u ss reach are low = record {
  whole = (record { all = length-replicate (slot_places order) None; low = omega (arith, low) }, are.whole);
  near = λ place. go place (u == slot_of order place);
}
  where
    go : (place : ℕ) (b : Bool)
        → IsNear reach place (if b then get_or (replicate (slot_places order) None) (place - u * slot_places order) None else left_in order ss place)
    go place true = subst (IsNear reach place) (sym (same_at {X = Option Cell} (slot_places order) (place - u * slot_places order) None)) tt
    go place false = are.near place

pub granted : (old : Left) (u : ℕ) → list_any (λ v. v == u) (left_slots old) ≡ false → Becomes old (u ∷ left_slots old) (λ cells. cells)
    (record { order = old.order; slots = record { slot = u; cells = replicate (slot_places old.order) None } ∷ old.slots })
granted old u new = record {
  order = refl;
  slots = refl;
  cells = λ i place. go place (u == slot_of old.order place) refl i;
}
  where
    go : (place : ℕ) (b : Bool) → (u == slot_of old.order place) ≡ b
        → (if b then get_or (replicate (slot_places old.order) None) (place - u * slot_places old.order) None else left_in old.order old.slots place) ≡ left_at old place
    go place true is = same_at (slot_places old.order) (place - u * slot_places old.order) None
        ∙ sym (none_left old.order place old.slots (subst (λ n. list_any (λ v. v == n) (left_slots old) ≡ false) (eqb-true u (slot_of old.order place) is) new))
    go place false is = refl
