-- The lists as pairs of key and node: their elements, their order and their length.
use Rattle.std.proofs.Common.{◌≡◌, ℕ, suc, zero, ◌+◌, ◌≤◌, Bool, true, false, cond, eqb, ltb, List, [], ◌∷◌, Option, Some, None, length, map, refl, ap, sym, ◌∙◌, subst, ◌⊎◌, inl, inr, arith, add-zero}
use Rattle.std.specs.Prelude.{◌≢◌, ◌↔◌, count_by, if◌then◌else◌, not, slice_get}
use Rattle.std.proofs.lemmas.Bool.{eq-eqb, ne_eqb, eqb-true, eqb-false, not-true}
use Rattle.std.proofs.lemmas.List.{length-map}
use Rattle.std.proofs.lemmas.List.Sums.{sum_by-cons}
use Rattle.model_core.specs.Elements.{IsIn}
use Rattle.model_core.specs.Machine.{put_rising}
use Rattle.model_core.specs.WellFormed.{RisesFrom}
use Rattle.model_core.proofs.Lists.{none_in, each_from, filter_in, in_filter, key_above, put_rises, in_put, put_has}
use Rattle.klist_core.specs.Places.{place_at, is_in, IsEmpty}
use Rattle.klist_core.specs.Lists.{put_by_key, with_node, list_from, list_of, keys_of, without_node}
use Rattle.klist_core.specs.Laws.{ListsCountPlaces}

-- `put_by_key` is `put_rising` by the key of a pair
put_is : (p : ℕ × ℕ) (qs : List (ℕ × ℕ)) → put_by_key p qs ≡ put_rising (λ (q : ℕ × ℕ). q.0) p qs
put_is p [] = refl
put_is p (q ∷ qs) = ap (λ (zs : List (ℕ × ℕ)). if ltb p.0 q.0 then p ∷ (q ∷ qs) else q ∷ zs) (put_is p qs)

-- an element of a list with p added is p or an element of the old list
pub among_put : (x p : ℕ × ℕ) (qs : List (ℕ × ℕ)) → IsIn x (put_by_key p qs) → (p ≡ x) ⊎ IsIn x qs
among_put x p qs a = in_put (λ (q : ℕ × ℕ). q.0) p x qs (subst (λ (zs : List (ℕ × ℕ)). IsIn x zs) (put_is p qs) a)

pub put_among : (x p : ℕ × ℕ) (qs : List (ℕ × ℕ)) → (p ≡ x) ⊎ IsIn x qs → IsIn x (put_by_key p qs)
put_among x p qs a = subst (λ (zs : List (ℕ × ℕ)). IsIn x zs) (sym (put_is p qs)) (put_has (λ (q : ℕ × ℕ). q.0) p x qs a)

pub rises_put : (n : ℕ) (p : ℕ × ℕ) (qs : List (ℕ × ℕ)) → n ≤ p.0 → ((x : ℕ × ℕ) → IsIn x qs → x.0 ≢ p.0) → RisesFrom n (map (λ p. p.0) qs) → RisesFrom n (map (λ p. p.0) (put_by_key p qs))
rises_put n p qs le f r =
    subst (λ (zs : List (ℕ × ℕ)). RisesFrom n (map (λ q. q.0) zs)) (sym (put_is p qs))
    (put_rises (λ (q : ℕ × ℕ). q.0) n p qs r le (each_from (λ (q : ℕ × ℕ). q.0 ≢ p.0) qs f))

-- if list h has the pair (k, j), node j has the place (h, k); the nodes are numbered from i on
pub among_places : (h i : ℕ) (places : List (Option (ℕ × ℕ))) (k j : ℕ) → IsIn (k, j) (list_from h i places) → (d : ℕ) × ((j ≡ i + d) × (place_at places d ≡ Some (h, k)))
among_places h i [] k j a = absurd a
among_places h i (place ∷ places) k j a = go place (among_places h (i + 1) places k j) a
  where
    later : (p : Option (ℕ × ℕ)) → ((d : ℕ) × ((j ≡ i + 1 + d) × (place_at places d ≡ Some (h, k)))) → (d : ℕ) × ((j ≡ i + d) × (place_at (p ∷ places) d ≡ Some (h, k)))
    later p w = (suc w.0, (omega (arith, w.1.0), w.1.1))

    go : (p : Option (ℕ × ℕ)) → (IsIn (k, j) (list_from h (i + 1) places) → (d : ℕ) × ((j ≡ i + 1 + d) × (place_at places d ≡ Some (h, k))))
        → IsIn (k, j) (with_node h i p (list_from h (i + 1) places)) → (d : ℕ) × ((j ≡ i + d) × (place_at (p ∷ places) d ≡ Some (h, k)))
    go None more a = later None (more a)
    go (Some (g, k')) more a = at (eqb g h) refl a
      where
        at : (b : Bool) → eqb g h ≡ b → IsIn (k, j) (if b then put_by_key (k', i) (list_from h (i + 1) places) else list_from h (i + 1) places)
            → (d : ℕ) × ((j ≡ i + d) × (place_at (Some (g, k') ∷ places) d ≡ Some (h, k)))
        at false e a = later (Some (g, k')) (more a)
        at true e a = elim (among_put (k, j) (k', i) (list_from h (i + 1) places) a) [
          | inl q ↦
              let key = ap (λ (p : ℕ × ℕ). p.0) q in
              let node = ap (λ (p : ℕ × ℕ). p.1) q in
              let list = eqb-true g h e in
              (0, (omega arith, ap (λ (x : ℕ). Some (x, k')) list ∙ ap (λ (x : ℕ). Some (h, x)) key))
          | inr u ↦ later (Some (g, k')) (more u)
        ]

pub places_among : (h i : ℕ) (places : List (Option (ℕ × ℕ))) (k d : ℕ) → place_at places d ≡ Some (h, k) → IsIn (k, i + d) (list_from h i places)
places_among h i [] k d e = absurd (let f : ◌≡◌ {A = Option (ℕ × ℕ)} None (Some (h, k)) = e in cc)
places_among h i (place ∷ places) k zero e = subst (λ p. IsIn (k, i + 0) (with_node h i p (list_from h (i + 1) places))) (sym e) (at (eqb h h) (eq-eqb h h refl))
  where
    at : (b : Bool) → b ≡ true → IsIn (k, i + 0) (if b then put_by_key (k, i) (list_from h (i + 1) places) else list_from h (i + 1) places)
    at true e = put_among (k, i + 0) (k, i) (list_from h (i + 1) places) (inl (ap (λ (x : ℕ). (k, x)) (sym (add-zero i))))
    at false e = absurd (let f : ◌≡◌ {A = Bool} false true = e in cc)
places_among h i (place ∷ places) k (suc d) e = go place (subst (λ x. IsIn (k, x) (list_from h (i + 1) places)) (omega arith) (places_among h (i + 1) places k d e))
  where
    go : (p : Option (ℕ × ℕ)) → IsIn (k, i + suc d) (list_from h (i + 1) places) → IsIn (k, i + suc d) (with_node h i p (list_from h (i + 1) places))
    go None a = a
    go (Some (g, k')) a = at (eqb g h) a
      where
        at : (b : Bool) → IsIn (k, i + suc d) (list_from h (i + 1) places) → IsIn (k, i + suc d) (if b then put_by_key (k', i) (list_from h (i + 1) places) else list_from h (i + 1) places)
        at true a = put_among (k, i + suc d) (k', i) (list_from h (i + 1) places) (inr a)
        at false a = a

pub in_list : (places : List (Option (ℕ × ℕ))) (h k i : ℕ) → IsIn (k, i) (list_of places h) → place_at places i ≡ Some (h, k)
in_list places h k i a = let w = among_places h 0 places k i a in let same : w.0 ≡ i = omega (arith, w.1.0) in subst (λ x. place_at places x ≡ Some (h, k)) same w.1.1

pub listed : (places : List (Option (ℕ × ℕ))) (h k i : ℕ) → place_at places i ≡ Some (h, k) → IsIn (k, i) (list_of places h)
listed places h k i e = subst (λ x. IsIn (k, x) (list_of places h)) (omega arith) (places_among h 0 places k i e)

-- no two nodes of list h have the same key
pub record IsDistinct (h : ℕ) (places : List (Option (ℕ × ℕ))) : Type 0 where
  pub apart : (i j k : ℕ) → place_at places i ≡ Some (h, k) → place_at places j ≡ Some (h, k) → i ≡ j

pub list_rises : (h i : ℕ) (places : List (Option (ℕ × ℕ))) → IsDistinct h places → RisesFrom 0 (map (λ p. p.0) (list_from h i places))
list_rises h i [] d = tt
list_rises h i (place ∷ places) d = go place (λ j k. d.apart 0 (suc j) k) (list_rises h (i + 1) places (record { apart = λ x y k e f. let u = d.apart (suc x) (suc y) k e f in omega arith }))
  where
    go : (p : Option (ℕ × ℕ)) → ((j k : ℕ) → p ≡ Some (h, k) → place_at places j ≡ Some (h, k) → 0 ≡ suc j) → RisesFrom 0 (map (λ p. p.0) (list_from h (i + 1) places))
        → RisesFrom 0 (map (λ p. p.0) (with_node h i p (list_from h (i + 1) places)))
    go None f r = r
    go (Some (g, k')) f r = at (eqb g h) refl
      where
        at : (b : Bool) → eqb g h ≡ b → RisesFrom 0 (map (λ p. p.0) (if b then put_by_key (k', i) (list_from h (i + 1) places) else list_from h (i + 1) places))
        at false e = r
        at true e = rises_put 0 (k', i) (list_from h (i + 1) places) (omega arith) (λ x a q.
            let w = among_places h (i + 1) places x.0 x.1 a in
            let u = f w.0 k' (ap (λ (y : ℕ). Some (y, k')) (eqb-true g h e)) (w.1.1 ∙ ap (λ (y : ℕ). Some (h, y)) q) in omega arith) r

-- a list with a pair added is longer by one
length_put : (p : ℕ × ℕ) (qs : List (ℕ × ℕ)) → length (put_by_key p qs) ≡ suc (length qs)
length_put p [] = refl
length_put p (q ∷ qs) = go (ltb p.0 q.0) (length_put p qs)
  where
    go : (b : Bool) → length (put_by_key p qs) ≡ suc (length qs) → length (if b then p ∷ (q ∷ qs) else q ∷ put_by_key p qs) ≡ suc (suc (length qs))
    go true e = refl
    go false e = ap suc e

pub length_list : (h i : ℕ) (places : List (Option (ℕ × ℕ))) → length (list_from h i places) ≡ count_by (is_in h) places
length_list h i [] = refl
length_list h i (place ∷ places) = go place (length_list h (i + 1) places) ∙ sym (sum_by-cons (λ p. cond (is_in h p) 1 0) place places)
  where
    go : (p : Option (ℕ × ℕ)) → length (list_from h (i + 1) places) ≡ count_by (is_in h) places → length (with_node h i p (list_from h (i + 1) places)) ≡ cond (is_in h p) 1 0 + count_by (is_in h) places
    go None e = omega arith
    go (Some (g, k')) e = at (eqb g h)
      where
        at : (b : Bool) → length (if b then put_by_key (k', i) (list_from h (i + 1) places) else list_from h (i + 1) places) ≡ cond b 1 0 + count_by (is_in h) places
        at true = omega (arith, length_put (k', i) (list_from h (i + 1) places), e)
        at false = omega (arith, e)

-- if the keys of a list ascend, its first pair is the one with the least key
pub first_of_rising : (n k j : ℕ) (qs : List (ℕ × ℕ)) → RisesFrom n (map (λ p. p.0) qs) → IsIn (k, j) qs → ((x : ℕ × ℕ) → IsIn x qs → k ≤ x.0) → slice_get qs 0 ≡ Some (k, j)
first_of_rising n k j [] r a f = absurd a
first_of_rising n k j (q ∷ qs) (le, r) (inl e) f = ap Some e
first_of_rising n k j (q ∷ qs) (le, r) (inr a) f = absurd (let u : q.0 + 1 ≤ k = key_above (λ (p : ℕ × ℕ). p.0) (q.0 + 1) (k, j) qs r a in let v = f q (inl refl) in omega arith)

-- an element of a list without the pair of node i is an element of the old list, and it is not a pair of node i
pub among_without : (i : ℕ) (x : ℕ × ℕ) (qs : List (ℕ × ℕ)) → IsIn x (without_node i qs) → IsIn x qs × (x.1 ≢ i)
among_without i x qs a = let w = filter_in (λ (q : ℕ × ℕ). not (eqb q.1 i)) x qs a in (w.0, eqb-false x.1 i (not-true (eqb x.1 i) w.1))

pub without_among : (i : ℕ) (x : ℕ × ℕ) (qs : List (ℕ × ℕ)) → IsIn x qs → x.1 ≢ i → IsIn x (without_node i qs)
without_among i x qs a ne = in_filter (λ (q : ℕ × ℕ). not (eqb q.1 i)) x qs a (ap not (ne_eqb x.1 i ne))

-- each key of a list is the key of one of its pairs
pub key_among : (k : ℕ) (qs : List (ℕ × ℕ)) → IsIn k (map (λ p. p.0) qs) → (i : ℕ) × IsIn (k, i) qs
key_among k [] a = absurd a
key_among k (q ∷ qs) (inl e) = (q.1, inl (ap (λ (x : ℕ). (x, q.1)) e))
key_among k (q ∷ qs) (inr a) = let w = key_among k qs a in (w.0, inr w.1)

-- the length of a list is the number of its nodes
pub lists_count_places : ListsCountPlaces
lists_count_places places h = (length_list h 0 places, length-map (list_of places h) (λ p. p.0) ∙ length_list h 0 places)

-- a list of length 0 has no element
none_among : (x : ℕ × ℕ) (qs : List (ℕ × ℕ)) → length qs ≡ 0 → IsIn x qs → ⊥
none_among x [] e a = a
none_among x (q ∷ qs) e a = omega (arith, e)

pub no_keys : (places : List (Option (ℕ × ℕ))) (h : ℕ) → length (keys_of places h) ≡ 0 ↔ IsEmpty places h
no_keys places h = (
  λ e i k at. none_among (k, i) (list_of places h) (omega (arith, e, length-map (list_of places h) (λ p. p.0))) (listed places h k i at),
  λ none. length-map (list_of places h) (λ p. p.0) ∙ ap (λ (qs : List (ℕ × ℕ)). length qs) (none_in (list_of places h) (λ x a. none x.1 x.0 (in_list places h x.0 x.1 a))),
)
