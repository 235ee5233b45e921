-- A step that is made at each place of a list of slots.
use Rattle.std.proofs.Common.{◌≡◌, ℕ, zero, suc, ◌+◌, ◌-◌, ◌*◌, ◌^◌, ◌<◌, ◌≤◌, Bool, true, false, leb, ltb, List, [], ◌∷◌, length, get_or, drop, Option, None, refl, sym, ap, ◌∙◌, subst, arith}
use Rattle.std.specs.Prelude.{if◌then◌else◌, ◌&&◌, ◌||◌, ◌==◌}
use Rattle.std.specs.List.{list_any, AllByRecursion}
use Rattle.std.proofs.lemmas.Bool.{eqb-true, eq-eqb, false≢true}
use Rattle.model_core.specs.Machine.{slot_of}
use Rattle.promise_core.specs.Bytes.{Cell, Cells}
use Rattle.shadow_memory.specs.Left.{LeftSlot, Left, slot_places, left_in, slots_in, left_slots, has_place, Becomes, left_at}
use Rattle.shadow_memory.specs.Inside.{CellStep, IsNear, StaysNear, IsSlotWhole, AreSlots, AreStepped, within}
use Rattle.std.proofs.lemmas.List.{at_drop_more}
use Rattle.shadow_memory.proofs.Places.{inside_slot, inside_behind}

-- `new` is the slot `old` after a step at each of its places
pub record IsStepped (order : ℕ) (step : CellStep) (old new : LeftSlot) : Type 0 where
  pub slot : new.slot ≡ old.slot
  pub len : length new.cells ≡ length old.cells
  pub cells : (k : ℕ) → k < length old.cells
      → get_or new.cells k None ≡ step (old.slot * slot_places order + k) (get_or old.cells k None)

stepped_at : (order : ℕ) (step : CellStep) (s t : LeftSlot) (x y : Option Cell) (place : ℕ) (b more : Bool) → (s.slot == slot_of order place) ≡ b
    → IsSlotWhole order s → IsStepped order step s t → (b || more) ≡ true → (more ≡ true → (place < 2 ^ 32) × (y ≡ step place x))
    → (place < 2 ^ 32) × ((if b then get_or t.cells (place - s.slot * slot_places order) None else y)
    ≡ step place (if b then get_or s.cells (place - s.slot * slot_places order) None else x))
stepped_at order step s t x y place true more is w here has rest =
    let at : s.slot ≡ slot_of order place = eqb-true s.slot (slot_of order place) is in
    let inside = inside_slot order place s.slot (sym at) in
    let low : s.slot * slot_places order ≤ place = inside.0 in
    let short : place - s.slot * slot_places order < slot_places order = inside.1 in
    let k : ℕ = place - s.slot * slot_places order in
    let ends : (s.slot + 1) * slot_places order ≤ 2 ^ 32 = w.low in
    let within_cells : k < length s.cells = subst (λ (n : ℕ). k < n) (sym w.all) short in
    let back : s.slot * slot_places order + k ≡ place = omega arith in
    (omega arith, here.cells k within_cells ∙ ap (λ (p : ℕ). step p (get_or s.cells k None)) back)
stepped_at order step s t x y place false more is w here has rest = rest has

-- if the step is made in each slot of a list, it is made at every place of the list
pub stepped : (order : ℕ) (step : CellStep) (ss ts : List LeftSlot) → length ts ≡ length ss
    → ((k : ℕ) (d : LeftSlot) → k < length ss → IsStepped order step (get_or ss k d) (get_or ts k d))
    → AllByRecursion (IsSlotWhole order) ss → AreStepped order step ss ts
stepped order step [] [] len each w = record { slots = refl; whole = tt; cells = λ place has. absurd (false≢true has) }
stepped order step [] (t ∷ ts) len each w = absurd (omega arith)
stepped order step (s ∷ ss) [] len each w = absurd (omega arith)
stepped order step (s ∷ ss) (t ∷ ts) len each w =
    let here : IsStepped order step s t = each 0 s (omega arith) in
    let rest : AreStepped order step ss ts = stepped order step ss ts (omega arith) (λ k d lt. each (suc k) d (omega arith)) w.1 in
    let all : length s.cells ≡ slot_places order = w.0.all in
    let low : (s.slot + 1) * slot_places order ≤ 2 ^ 32 = w.0.low in
    record {
      slots = ap (λ (u : ℕ). u ∷ slots_in ts) here.slot ∙ ap (λ (us : List ℕ). s.slot ∷ us) rest.slots;
      whole = (record { all = here.len ∙ all; low = subst (λ (u : ℕ). (u + 1) * slot_places order ≤ 2 ^ 32) (sym here.slot) low }, rest.whole);
      cells = λ place has. subst (λ (u : ℕ). (place < 2 ^ 32) × ((if u == slot_of order place then get_or t.cells (place - u * slot_places order) None else left_in order ts place)
          ≡ step place (left_in order (s ∷ ss) place))) (sym here.slot)
          (stepped_at order step s t (left_in order ss place) (left_in order ts place) place (s.slot == slot_of order place)
          (list_any (λ u. u == slot_of order place) (slots_in ss)) refl w.0 here has (rest.cells place));
    }

-- two steps, one after the other, are one step
pub stepped_twice : (order : ℕ) (one two : CellStep) (ss ts us : List LeftSlot) → AreStepped order one ss ts → AreStepped order two ts us
    → AreStepped order (λ place cell. two place (one place cell)) ss us
stepped_twice order one two ss ts us before after = record {
  slots = after.slots ∙ before.slots;
  whole = after.whole;
  cells = λ place has.
      let at = before.cells place has in
      let now = after.cells place (ap (list_any (λ u. u == slot_of order place)) before.slots ∙ has) in
      (at.0, now.1 ∙ ap (two place) at.1);
}

-- nothing was left at a place that is in no slot
pub none_left : (order place : ℕ) (ss : List LeftSlot) → list_any (λ u. u == slot_of order place) (slots_in ss) ≡ false → left_in order ss place ≡ None
none_left order place [] off = refl
none_left order place (s ∷ ss) off = go (s.slot == slot_of order place) (none_left order place ss) off
  where
    go : (b : Bool) → (list_any (λ u. u == slot_of order place) (slots_in ss) ≡ false → left_in order ss place ≡ None)
        → (b || list_any (λ u. u == slot_of order place) (slots_in ss)) ≡ false
        → (if b then get_or s.cells (place - s.slot * slot_places order) None else left_in order ss place) ≡ None
    go true rest off = absurd (false≢true (sym off))
    go false rest off = rest off

-- Let what was left be within `reach`, and let the step turn every cell within `reach` into a cell within `more`. Then what is
-- left after the step is within `more`.
pub near_after : (order : ℕ) (reach more : List ℕ) (step : CellStep) (ss ts : List LeftSlot) → AreStepped order step ss ts
    → ((place : ℕ) → IsNear reach place (left_in order ss place))
    → ((place : ℕ) (cell : Option Cell) → IsNear reach place cell → IsNear more place (step place cell))
    → (place : ℕ) → IsNear more place (left_in order ts place)
near_after order reach more step ss ts after near keeps place = go (list_any (λ u. u == slot_of order place) (slots_in ss)) refl
  where
    go : (b : Bool) → list_any (λ u. u == slot_of order place) (slots_in ss) ≡ b → IsNear more place (left_in order ts place)
    go true has = subst (IsNear more place) (sym (after.cells place has).1) (keeps place (left_in order ss place) (near place))
    go false off = subst (IsNear more place) (sym (none_left order place ts (ap (list_any (λ u. u == slot_of order place)) after.slots ∙ off))) tt

pub near_within : (begin end : ℕ) (step : CellStep) → StaysNear step → StaysNear (within begin end step)
near_within begin end step keeps reach place cell near = go (leb begin place && ltb place end)
  where
    go : (b : Bool) → IsNear reach place (if b then step place cell else cell)
    go true = keeps reach place cell near
    go false = near

-- if a step has the result of a change at each place below 2 ^ 32, and the change adds nothing outside the slots, the step makes
-- this change
pub becomes : (old new : Left) (step : CellStep) (change : Cells → Cells) → new.order ≡ old.order → AreStepped old.order step old.slots new.slots
    → ((place : ℕ) → place < 2 ^ 32 → step place (left_at old place) ≡ change (left_at old) place)
    → ((place : ℕ) → has_place old place ≡ false → left_at old place ≡ None → change (left_at old) place ≡ None)
    → Becomes old (left_slots old) change new
becomes old new step change e after same none = record {
  order = e;
  slots = after.slots;
  cells = λ i place. subst (λ (o : ℕ). left_in o new.slots place ≡ change (left_at old) place) (sym e) (go place (has_place old place) refl) i;
}
  where
    go : (place : ℕ) (b : Bool) → has_place old place ≡ b → left_in old.order new.slots place ≡ change (left_at old) place
    go place true has = let at = after.cells place has in at.1 ∙ same place at.0
    go place false off = none_left old.order place new.slots (ap (list_any (λ u. u == slot_of old.order place)) after.slots ∙ off)
        ∙ sym (none place off (none_left old.order place old.slots off))

-- for a place of the slot at index `i`, a lookup in the list of slots from index `i` on returns the slot's cell
pub found_slot : (order place i : ℕ) (ss : List LeftSlot) (s : LeftSlot) → i < length ss → s ≡ get_or ss i s → (s.slot == slot_of order place) ≡ true
    → left_in order (drop i ss) place ≡ get_or s.cells (place - s.slot * slot_places order) None
found_slot order place i ss s lt is here = at_drop_more (λ (xs : List LeftSlot). left_in order xs place) ss i s lt
    ∙ (ap (λ (x : LeftSlot). left_in order (x ∷ drop (i + 1) ss) place) (sym is)
    ∙ ap (λ (t : Bool). if t then get_or s.cells (place - s.slot * slot_places order) None else left_in order (drop (i + 1) ss) place) here)

-- the places of whole slots are below 2 ^ 32
pub low_place : (order place : ℕ) (ss : List LeftSlot) → AllByRecursion (IsSlotWhole order) ss
    → list_any (λ u. u == slot_of order place) (slots_in ss) ≡ true → place < 2 ^ 32
low_place order place [] w has = absurd (false≢true has)
low_place order place (s ∷ ss) w has = go (s.slot == slot_of order place) refl (low_place order place ss w.1) has
  where
    go : (b : Bool) → (s.slot == slot_of order place) ≡ b → (list_any (λ u. u == slot_of order place) (slots_in ss) ≡ true → place < 2 ^ 32)
        → (b || list_any (λ u. u == slot_of order place) (slots_in ss)) ≡ true → place < 2 ^ 32
    go true is rest has =
        let inside = inside_slot order place s.slot (sym (eqb-true s.slot (slot_of order place) is)) in
        let low : s.slot * slot_places order ≤ place = inside.0 in
        let short : place - s.slot * slot_places order < slot_places order = inside.1 in
        let ends : (s.slot + 1) * slot_places order ≤ 2 ^ 32 = w.0.low in
        omega arith
    go false is rest has = rest has

-- if the step turns every cell within `reach` into a cell within `more`, the slots keep their invariant, with the reach `more`
pub slots_after : (order : ℕ) (reach more : List ℕ) (step : CellStep) (ss ts : List LeftSlot) → AreStepped order step ss ts → AreSlots order ss reach
    → ((place : ℕ) (cell : Option Cell) → IsNear reach place cell → IsNear more place (step place cell)) → AreSlots order ts more
slots_after order reach more step ss ts after are keeps = record {
  whole = after.whole;
  near = near_after order reach more step ss ts after are.near keeps;
}

whole_at : (order i : ℕ) (ss : List LeftSlot) (d : LeftSlot) → AllByRecursion (IsSlotWhole order) ss → i < length ss → IsSlotWhole order (get_or ss i d)
whole_at order i [] d w lt = absurd (omega arith)
whole_at order zero (s ∷ ss) d w lt = w.0
whole_at order (suc i) (s ∷ ss) d w lt = whole_at order i ss d w.1 (omega arith)

-- the places of a slot end at or before 2 ^ 32
pub slot_ends : (order i : ℕ) (ss ts : List LeftSlot) (d : LeftSlot) (slot places : ℕ) → AllByRecursion (IsSlotWhole order) ss → i < length ss
    → get_or ts i d ≡ get_or ss i d → slot ≡ (get_or ts i d).slot → places ≡ slot_places order
    → slot * places + length (get_or ts i d).cells ≤ 2 ^ 32
slot_ends order i ss ts d slot places w lt same is_slot is_places =
    let at : IsSlotWhole order (get_or ts i d) = subst (IsSlotWhole order) (sym same) (whole_at order i ss d w lt) in
    let all : length (get_or ts i d).cells ≡ slot_places order = at.all in
    let low : ((get_or ts i d).slot + 1) * slot_places order ≤ 2 ^ 32 = at.low in
    let product : slot * places ≡ (get_or ts i d).slot * slot_places order = ap (λ (n : ℕ). n * places) is_slot ∙ ap (λ (n : ℕ). (get_or ts i d).slot * n) is_places in
    omega (arith, product, all, low)

-- if a place is in the slot at index `i` and in no earlier slot of the list, the slot's cells from this place on are what was
-- left there
pub kept_behind : (order place i index : ℕ) (ss : List LeftSlot) (s : LeftSlot) → AllByRecursion (IsSlotWhole order) ss → i < length ss
    → s ≡ get_or ss i s → s.slot ≡ slot_of order place → index ≡ place - s.slot * slot_places order
    → ((p : ℕ) → slot_of order p ≡ slot_of order place → left_in order (drop i ss) p ≡ left_in order ss p)
    → (j : ℕ) → index + j < length s.cells → get_or s.cells (index + j) None ≡ left_in order ss (place + j)
kept_behind order place i index ss s w lt is at is_index same j inside =
    let whole : IsSlotWhole order s = subst (IsSlotWhole order) (sym is) (whole_at order i ss s w lt) in
    let all : length s.cells ≡ slot_places order = whole.all in
    let low : s.slot * slot_places order ≤ place = (inside_slot order place s.slot (sym at)).0 in
    let behind : slot_of order (place + j) ≡ s.slot = inside_behind order place s.slot j (sym at) (omega arith) in
    let here : (s.slot == slot_of order (place + j)) ≡ true = eq-eqb s.slot (slot_of order (place + j)) (sym behind) in
    let e : index + j ≡ place + j - s.slot * slot_places order = omega arith in
    ap (λ (n : ℕ). get_or s.cells n None) e ∙ (sym (found_slot order (place + j) i ss s lt is here) ∙ same (place + j) (behind ∙ at))
