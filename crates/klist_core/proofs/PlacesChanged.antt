-- `ArePlaces`, which is true of every table, is still true after an insertion or a removal. One list then has one node more or
-- one fewer.
use Rattle.std.proofs.Common.{◌≡◌, ℕ, zero, suc, ◌+◌, ◌^◌, ◌<◌, Bool, cond, List, Option, Some, None, length, set, refl, ap, sym, ◌∙◌, inl, inr, arith}
use Rattle.std.specs.Prelude.{◌≢◌, count_by, IsSome, is_some}
use Rattle.std.proofs.lemmas.Bool.{cases_eq, eq-eqb, ne_eqb, cases_lt, false≢true}
use Rattle.std.proofs.lemmas.List.{length-set, get_or-set_same, get_or-set_other, get_or_past}
use Rattle.std.proofs.lemmas.List.Sums.{sum_by-set}
use Rattle.klist_core.specs.Places.{Placed, place_at, is_in, ArePlaces, inserted, removed}
use Rattle.klist_core.proofs.NearestChanged.{IsPut, raised, lowered}

-- a node that has a place is in the table
pub placed_within : (places : List (Option (ℕ × ℕ))) (i : ℕ) (q : ℕ × ℕ) → place_at places i ≡ Some q → i < length places
placed_within places i q e = elim (cases_lt i (length places)) [ inl lt ↦ lt | inr le ↦ let past = get_or_past places i None le in absurd (let f : ◌≡◌ {A = Option (ℕ × ℕ)} None (Some q) = cc in cc) ]

pub put_by_insertion : (places : List (Option (ℕ × ℕ))) (h n k : ℕ) → n < length places → place_at places n ≡ None → ((i : ℕ) → place_at places i ≢ Some (h, k))
    → IsPut (place_at places) (place_at (set places n (Some (h, k)))) h n k
put_by_insertion places h n k lt free fresh = record {
  free = free;
  here = get_or-set_same places n (Some (h, k)) None lt;
  others = λ i ne. get_or-set_other places n i (Some (h, k)) None ne;
  fresh = fresh;
}

pub put_by_removal : (s : Placed) (h n k : ℕ) → ArePlaces s → place_at s.places n ≡ Some (h, k) → IsPut (place_at (set s.places n None)) (place_at s.places) h n k
put_by_removal s h n k t e = record { free = gone; here = e; others = λ i ne. sym (kept i ne); fresh = fresh }
  where
    gone : place_at (set s.places n None) n ≡ None
    gone = get_or-set_same s.places n None None (placed_within s.places n (h, k) e)

    kept : (i : ℕ) → i ≢ n → place_at (set s.places n None) i ≡ place_at s.places i
    kept i ne = get_or-set_other s.places n i None None ne

    fresh : (i : ℕ) → place_at (set s.places n None) i ≢ Some (h, k)
    fresh i q = elim (cases_eq i n) [
      | inl is ↦ let f : ◌≡◌ {A = Option (ℕ × ℕ)} None (Some (h, k)) = sym gone ∙ (sym (ap (place_at (set s.places n None)) is) ∙ q) in cc
      | inr ne ↦ ne (t.apart i n h k (sym (kept i ne) ∙ q) e)
    ]

-- if no two nodes of a list have the same key in `small`, no two nodes of a list have the same key in `large`
pub apart_large : {small large : ℕ → Option (ℕ × ℕ)} {h n k : ℕ} → IsPut small large h n k → ((i j g k' : ℕ) → small i ≡ Some (g, k') → small j ≡ Some (g, k') → i ≡ j)
    → (i j g k' : ℕ) → large i ≡ Some (g, k') → large j ≡ Some (g, k') → i ≡ j
apart_large {small} {large} {h} {n} {k} p apart i j g k' e f = elim (lowered p i g k' e) [
  | inl o ↦ elim (lowered p j g k' f) [ inl u ↦ apart i j g k' o u | inr w ↦ absurd (clash i g k' o w.1 w.2) ]
  | inr v ↦ elim (lowered p j g k' f) [ inl u ↦ absurd (clash j g k' u v.1 v.2) | inr w ↦ v.0 ∙ sym w.0 ]
]
  where
    clash : (x g k' : ℕ) → small x ≡ Some (g, k') → g ≡ h → k' ≡ k → ⊥
    clash x g k' e a b = p.fresh x (e ∙ (ap (λ (y : ℕ). Some (y, k')) a ∙ ap (λ (y : ℕ). Some (h, y)) b))

pub table_inserted : (s : Placed) (h n k : ℕ) → ArePlaces s → IsPut (place_at s.places) (place_at (inserted s h n k).places) h n k → h < s.heads → k < 2 ^ 32 → ArePlaces (inserted s h n k)
table_inserted s h n k t p in_heads fits = record {
  few = t.few;
  small = omega (arith, length-set s.places n (Some (h, k)), t.small);
  headed = λ i g k' e. elim (lowered p i g k' e) [ inl o ↦ t.headed i g k' o | inr w ↦ omega (arith, w.1) ];
  keyed = λ i g k' e. elim (lowered p i g k' e) [ inl o ↦ t.keyed i g k' o | inr w ↦ omega (arith, w.2) ];
  apart = apart_large p t.apart;
}

pub table_removed : (s : Placed) (h n k : ℕ) → ArePlaces s → IsPut (place_at (removed s n).places) (place_at s.places) h n k → ArePlaces (removed s n)
table_removed s h n k t p = record {
  few = t.few;
  small = omega (arith, length-set s.places n None, t.small);
  headed = λ i g k' e. t.headed i g k' (raised p i (g, k') e);
  keyed = λ i g k' e. t.keyed i g k' (raised p i (g, k') e);
  apart = λ i j g k' e f. t.apart i j g k' (raised p i (g, k') e) (raised p j (g, k') f);
}

-- An insertion gives list h one node more, and a removal gives it one node fewer. The lengths of the other lists stay the same.
abbrev one : Bool → ℕ
one b = cond b 1 0

counted_set : (places : List (Option (ℕ × ℕ))) (n g : ℕ) (x y : Option (ℕ × ℕ)) → n < length places → place_at places n ≡ y
    → count_by (is_in g) (set places n x) + one (is_in g y) ≡ count_by (is_in g) places + one (is_in g x)
counted_set places n g x y lt e = ap (λ (z : Option (ℕ × ℕ)). count_by (is_in g) (set places n x) + one (is_in g z)) (sym e) ∙ sum_by-set (λ z. one (is_in g z)) places n x None lt

one_here : (g h k : ℕ) → g ≡ h → one (is_in g (Some (h, k))) ≡ suc zero
one_here g h k e = ap one (eq-eqb h g (sym e))

one_elsewhere : (g h k : ℕ) → g ≢ h → one (is_in g (Some (h, k))) ≡ zero
one_elsewhere g h k ne = ap one (ne_eqb h g (λ e. ne (sym e)))

pub count_inserted : (places : List (Option (ℕ × ℕ))) (h n k : ℕ) → n < length places → place_at places n ≡ None
    → count_by (is_in h) (set places n (Some (h, k))) ≡ count_by (is_in h) places + 1
count_inserted places h n k lt e = omega (arith, counted_set places n h (Some (h, k)) None lt e, one_here h h k refl)

pub count_inserted_elsewhere : (places : List (Option (ℕ × ℕ))) (g h n k : ℕ) → g ≢ h → n < length places → place_at places n ≡ None
    → count_by (is_in g) (set places n (Some (h, k))) ≡ count_by (is_in g) places
count_inserted_elsewhere places g h n k ne lt e = omega (arith, counted_set places n g (Some (h, k)) None lt e, one_elsewhere g h k ne)

pub count_removed : (places : List (Option (ℕ × ℕ))) (h n k : ℕ) → n < length places → place_at places n ≡ Some (h, k)
    → count_by (is_in h) (set places n None) + 1 ≡ count_by (is_in h) places
count_removed places h n k lt e = omega (arith, counted_set places n h None (Some (h, k)) lt e, one_here h h k refl)

pub count_removed_elsewhere : (places : List (Option (ℕ × ℕ))) (g h n k : ℕ) → g ≢ h → n < length places → place_at places n ≡ Some (h, k)
    → count_by (is_in g) (set places n None) ≡ count_by (is_in g) places
count_removed_elsewhere places g h n k ne lt e = omega (arith, counted_set places n g None (Some (h, k)) lt e, one_elsewhere g h k ne)

pub some_within : (places : List (Option (ℕ × ℕ))) (i : ℕ) → IsSome (place_at places i) → i < length places
some_within places i s = elim (cases_lt i (length places)) [ inl lt ↦ lt | inr le ↦ absurd (false≢true (ap is_some (sym (get_or_past places i None le)) ∙ s)) ]
