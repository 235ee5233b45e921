-- An insertion adds one pair to one list, and a removal takes one pair out of one list. No other pair changes.
use Rattle.std.proofs.Common.{◌≡◌, ℕ, eqb, List, Option, Some, None, ap, sym, ◌∙◌, inl, inr, arith}
use Rattle.std.specs.Prelude.{◌≢◌, not}
use Rattle.model_core.specs.Elements.{IsIn}
use Rattle.model_core.proofs.Lists.{filter_rises}
use Rattle.model_core.proofs.RisingLists.{same_keyed}
use Rattle.klist_core.specs.Places.{Placed, ArePlaces, place_at, inserted, removed}
use Rattle.klist_core.specs.Lists.{list_of, put_by_key, without_node}
use Rattle.klist_core.specs.Laws.{MayInsert}
use Rattle.klist_core.proofs.NearestChanged.{IsPut, raised, lowered, others_lowered}
use Rattle.klist_core.proofs.PlacesChanged.{put_by_insertion, put_by_removal, apart_large}
use Rattle.klist_core.proofs.KeyNodePairs.{IsDistinct, among_put, put_among, rises_put, in_list, listed, list_rises, among_without, without_among}

-- list g is the same in two tables if it has the same nodes under the same keys in both
same_nodes : (old new : List (Option (ℕ × ℕ))) (g : ℕ) → IsDistinct g old → IsDistinct g new
    → ((i k : ℕ) → place_at old i ≡ Some (g, k) → place_at new i ≡ Some (g, k)) → ((i k : ℕ) → place_at new i ≡ Some (g, k) → place_at old i ≡ Some (g, k))
    → list_of new g ≡ list_of old g
same_nodes old new g d e to back = same_keyed (λ (p : ℕ × ℕ). p.0) 0 (list_of new g) (list_of old g) (list_rises g 0 new e) (list_rises g 0 old d)
    (λ x a. listed old g x.0 x.1 (back x.1 x.0 (in_list new g x.0 x.1 a))) (λ x a. listed new g x.0 x.1 (to x.1 x.0 (in_list old g x.0 x.1 a)))

module _ (small large : List (Option (ℕ × ℕ))) (h n k : ℕ) (p : IsPut (place_at small) (place_at large) h n k)
    (apart : (i j g k' : ℕ) → place_at small i ≡ Some (g, k') → place_at small j ≡ Some (g, k') → i ≡ j) where
  distinct_small : (g : ℕ) → IsDistinct g small
  distinct_small g = record { apart = λ i j k'. apart i j g k' }

  distinct_large : (g : ℕ) → IsDistinct g large
  distinct_large g = record { apart = λ i j k'. apart_large p apart i j g k' }

  pub others_same : (g : ℕ) → g ≢ h → list_of large g ≡ list_of small g
  others_same g ne = same_nodes small large g (distinct_small g) (distinct_large g) (λ i k' e. raised p i (g, k') e) (λ i k' e. others_lowered (λ x. x) (place_at small) (place_at large) h n k p g i k' ne e)

  pub one_more : list_of large h ≡ put_by_key (k, n) (list_of small h)
  one_more = same_keyed (λ (p : ℕ × ℕ). p.0) 0 (list_of large h) (put_by_key (k, n) (list_of small h)) (list_rises h 0 large (distinct_large h))
      (rises_put 0 (k, n) (list_of small h) (omega arith) (λ x a e. p.fresh x.1 (in_list small h x.0 x.1 a ∙ ap (λ (y : ℕ). Some (h, y)) e)) (list_rises h 0 small (distinct_small h)))
      to back
    where
      to : (x : ℕ × ℕ) → IsIn x (list_of large h) → IsIn x (put_by_key (k, n) (list_of small h))
      to x a = elim (lowered p x.1 h x.0 (in_list large h x.0 x.1 a)) [
        | inl e ↦ put_among x (k, n) (list_of small h) (inr (listed small h x.0 x.1 e))
        | inr w ↦ put_among x (k, n) (list_of small h) (inl (ap (λ (y : ℕ). (y, n)) (sym w.2) ∙ ap (λ (y : ℕ). (x.0, y)) (sym w.0)))
      ]

      back : (x : ℕ × ℕ) → IsIn x (put_by_key (k, n) (list_of small h)) → IsIn x (list_of large h)
      back x a = elim (among_put x (k, n) (list_of small h) a) [
        | inl e ↦ listed large h x.0 x.1 (ap (place_at large) (sym (ap (λ (q : ℕ × ℕ). q.1) e)) ∙ (p.here ∙ ap (λ (q : ℕ × ℕ). Some (h, q.0)) e))
        | inr u ↦ listed large h x.0 x.1 (raised p x.1 (h, x.0) (in_list small h x.0 x.1 u))
      ]

  pub one_less : list_of small h ≡ without_node n (list_of large h)
  one_less = same_keyed (λ (p : ℕ × ℕ). p.0) 0 (list_of small h) (without_node n (list_of large h)) (list_rises h 0 small (distinct_small h)) (filter_rises (λ (p : ℕ × ℕ). p.0) (λ p. not (eqb p.1 n)) 0 (list_of large h) (list_rises h 0 large (distinct_large h)))
      to back
    where
      to : (x : ℕ × ℕ) → IsIn x (list_of small h) → IsIn x (without_node n (list_of large h))
      to x a = let e = in_list small h x.0 x.1 a in
          without_among n x (list_of large h) (listed large h x.0 x.1 (raised p x.1 (h, x.0) e))
          (λ s. let f : ◌≡◌ {A = Option (ℕ × ℕ)} None (Some (h, x.0)) = sym p.free ∙ (sym (ap (place_at small) s) ∙ e) in cc)

      back : (x : ℕ × ℕ) → IsIn x (without_node n (list_of large h)) → IsIn x (list_of small h)
      back x a = let w = among_without n x (list_of large h) a in elim (lowered p x.1 h x.0 (in_list large h x.0 x.1 w.0)) [
        | inl e ↦ listed small h x.0 x.1 e
        | inr v ↦ absurd (w.1 v.0)
      ]

pub insertion : (s : Placed) (h i k : ℕ) → ArePlaces s → MayInsert s h i k
    → (list_of (inserted s h i k).places h ≡ put_by_key (k, i) (list_of s.places h)) × ((g : ℕ) → g ≢ h → list_of (inserted s h i k).places g ≡ list_of s.places g)
insertion s h i k t m =
    let p = put_by_insertion s.places h i k m.node m.free m.fresh in
    (one_more s.places (inserted s h i k).places h i k p t.apart, others_same s.places (inserted s h i k).places h i k p t.apart)

pub removal : (s : Placed) (h i k : ℕ) → ArePlaces s → place_at s.places i ≡ Some (h, k)
    → (list_of (removed s i).places h ≡ without_node i (list_of s.places h)) × ((g : ℕ) → g ≢ h → list_of (removed s i).places g ≡ list_of s.places g)
removal s h i k t e =
    let p = put_by_removal s h i k t e in
    (one_less (removed s i).places s.places h i k p apart, λ g ne. sym (others_same (removed s i).places s.places h i k p apart g ne))
  where
    apart : (x y g k' : ℕ) → place_at (removed s i).places x ≡ Some (g, k') → place_at (removed s i).places y ≡ Some (g, k') → x ≡ y
    apart x y g k' a b = let p = put_by_removal s h i k t e in t.apart x y g k' (raised p x (g, k') a) (raised p y (g, k') b)
