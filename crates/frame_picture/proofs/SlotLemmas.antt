-- The greatest slot of a tenant in one sheet, and in a list of sheets or columns with one more element. The lemmas give this slot
-- plus 1, so that 0 means that the tenant has no slot.
use Rattle.std.proofs.Common.{◌≡◌, ℕ, ◌+◌, ◌<◌, max, List, Some, None, length, get_or, ap, refl, subst, sym, ◌∙◌, ◌⊎◌, inl, inr, arith}
use Rattle.std.proofs.lemmas.Bool.{cases_order}
use Rattle.std.proofs.lemmas.List.{get_or_default}
use Rattle.std.proofs.lemmas.Option.{same_Some}
use Rattle.model_core.specs.declared.owner.Owner.{Owner}
use Rattle.frame_picture.specs.declared.history.Sheet.{Sheet}
use Rattle.frame_picture.specs.Bounds.{IsGreatest}
use Rattle.frame_picture.specs.Slots.{IsAbove, IsSheetOf}
use Rattle.frame_picture.proofs.Greatest.{greatest_none, greatest_both}

-- if tenant t owns the sheet, the tenant's greatest slot in the sheet is the slot that `owner` names
pub held_slot : (t : ℕ) (sheet : Sheet) (owner : Owner) → sheet.owner ≡ Some owner → owner.tenant ≡ t
    → IsGreatest (IsAbove (λ slot. IsSheetOf t slot sheet)) 0 (owner.slot + 1)
held_slot t sheet owner is mine = record {
  above = omega arith;
  all = λ n other.
      let same : owner ≡ record { tenant = t; slot = other.0 } = same_Some owner (record { tenant = t; slot = other.0 }) (sym is ∙ other.1) in
      let slot : owner.slot ≡ other.0 = ap (λ (o : Owner). o.slot) same in
      let e : n ≡ other.0 + 1 = other.2 in
      omega arith;
  some = inr (owner.slot, is ∙ ap (λ (tenant : ℕ). Some (let o : Owner = record { tenant = tenant; slot = owner.slot } in o)) mine, refl);
}

-- if another tenant owns the sheet, tenant t has no slot in the sheet
pub other_slot : (t : ℕ) (sheet : Sheet) (owner : Owner) → sheet.owner ≡ Some owner → (owner.tenant ≡ t → ⊥)
    → IsGreatest (IsAbove (λ slot. IsSheetOf t slot sheet)) 0 0
other_slot t sheet owner is other = greatest_none (IsAbove (λ slot. IsSheetOf t slot sheet)) 0
    (λ n held. other (ap (λ (o : Owner). o.tenant) (same_Some owner (record { tenant = t; slot = held.0 }) (sym is ∙ held.1))))

-- if nobody owns the sheet, tenant t has no slot in the sheet
pub no_slot : (t : ℕ) (sheet : Sheet) → sheet.owner ≡ None → IsGreatest (IsAbove (λ slot. IsSheetOf t slot sheet)) 0 0
no_slot t sheet is = greatest_none (IsAbove (λ slot. IsSheetOf t slot sheet)) 0
    (λ n held. let none : None ≡ Some (let o : Owner = record { tenant = t; slot = held.0 } in o) = sym is ∙ held.1 in cc none)

-- P holds for one of the first n elements of the list
abbrev pub AnyBefore : {X : Type 0} → (X → Type 0) → List X → ℕ → Type 0
AnyBefore {X} P xs n = (k : ℕ) × (x : X) × (k < n) × (get_or xs k x ≡ x) × P x

pub slots_none : {X : Type 0} (P : ℕ → X → Type 0) (xs : List X) (lowest : ℕ) → IsGreatest (IsAbove (λ slot. AnyBefore (P slot) xs 0)) lowest lowest
slots_none P xs lowest = greatest_none (IsAbove (λ slot. AnyBefore (P slot) xs 0)) lowest
    (λ n is. let less : is.1.0 < 0 = is.1.2 in omega arith)

-- the greatest slot in the first i + 1 elements is the greatest in the first i elements or in element i, whichever is greater
pub slots_more : {X : Type 0} (P : ℕ → X → Type 0) (xs : List X) (i lowest slots more : ℕ) (x : X) → i < length xs → x ≡ get_or xs i x
    → IsGreatest (IsAbove (λ slot. AnyBefore (P slot) xs i)) lowest slots → IsGreatest (IsAbove (λ slot. P slot x)) 0 more
    → IsGreatest (IsAbove (λ slot. AnyBefore (P slot) xs (i + 1))) lowest (max more slots)
slots_more {X} P xs i lowest slots more x within read before here =
    greatest_both (IsAbove (λ slot. AnyBefore (P slot) xs i)) (IsAbove (λ slot. P slot x)) (IsAbove (λ slot. AnyBefore (P slot) xs (i + 1)))
    lowest slots more before here
    (λ n is. (is.0, (is.1.0, is.1.1, (let less : is.1.0 < i = is.1.2 in omega arith), is.1.3, is.1.4), is.2))
    (λ n is. (is.0, (i, x, omega arith, sym read, is.1), is.2))
    (λ n is. split n is.0 is.1.0 is.1.1 is.1.2 is.1.3 is.1.4 is.2 (cases_order is.1.0 i))
  where
    split : (n slot k : ℕ) (y : X) → k < i + 1 → get_or xs k y ≡ y → P slot y → n ≡ slot + 1 → (k ≡ i) ⊎ ((k < i) ⊎ (i < k))
        → IsAbove (λ slot. AnyBefore (P slot) xs i) n ⊎ IsAbove (λ slot. P slot x) n
    split n slot k y less is holds e (inl same) =
        let y_is : y ≡ x = sym is ∙ ap (λ j. get_or xs j y) same ∙ get_or_default xs i y x within ∙ sym read in
        inr (slot, subst (P slot) y_is holds, e)
    split n slot k y less is holds e (inr (inl below)) = inl (slot, (k, y, below, is, holds), e)
    split n slot k y less is holds e (inr (inr above)) = absurd (omega arith)
