-- Lists with rising keys: what searches in them find, and which items are left after an edit.
use Rattle.std.proofs.Common.{◌≡◌, ℕ, zero, suc, ◌+◌, ◌-◌, ◌<◌, ◌≤◌, Bool, true, false, not, ltb, cond, List, [], ◌∷◌, ◌++◌, map, length, get_or, take, drop, Some, None, inl, inr, refl, ap, sym, subst, ◌∙◌, arith}
use Rattle.std.specs.Prelude.{◌&&◌, ◌||◌, ◌==◌, nat_le, nat_lt, filter, find, if◌then◌else◌}
use Rattle.std.specs.Option.{is_some, option_map_or}
use Rattle.std.specs.List.{list_any, prefix_len, insert, remove, AllByRecursion as Each}
use Rattle.std.specs.List.Sorted.{IsNonDecreasingBy}
use Rattle.std.proofs.lemmas.Bool.{false≢true, leb-true, leb-false, and_left, and_from, cases_order, and_right, eq-eqb, ne_eqb, lt-ltb, le-ltb, le-leb, lt-leb, ltb-true, ltb-false}
use Rattle.std.proofs.lemmas.List.{length-take-le, drop-drop}
use Rattle.std.proofs.lemmas.List.Edits.{remove-append_right}
use Rattle.std.proofs.lemmas.List.Sums.{prefix_len-le-length, prefix_len_passes, prefix_len_stops, take_while-cons}
use Rattle.std.proofs.lemmas.List.Sorted.{IsNonDecreasingBy-insert}
use Rattle.model_core.specs.Machine.{put_rising}
use Rattle.model_core.specs.WellFormed.{RisesFrom}
use Rattle.model_core.proofs.Lists.{rises_above}

-- if the first `i` items of a list pass a test and all other items fail it, the prefix of items that pass has length `i`
pub prefix_point : {X : Type 0} (p : X → Bool) (i : ℕ) (xs : List X) → i ≤ length xs
    → ((k : ℕ) (d : X) → k < i → p (get_or xs k d) ≡ true)
    → ((k : ℕ) (d : X) → i ≤ k → k < length xs → p (get_or xs k d) ≡ false) → prefix_len p xs ≡ i
prefix_point p zero [] le before behind = refl
prefix_point p (suc i) [] le before behind = absurd (omega arith)
prefix_point p zero (x ∷ xs) le before behind = ap (λ (t : Bool). cond t (1 + prefix_len p xs) 0) (behind 0 x (omega arith) (omega arith))
prefix_point p (suc i) (x ∷ xs) le before behind =
    let rest : prefix_len p xs ≡ i = prefix_point p i xs (omega arith) (λ k d lt. before (suc k) d (omega arith))
    (λ k d from lt. behind (suc k) d (omega arith) (omega arith)) in
    ap (λ (t : Bool). cond t (1 + prefix_len p xs) 0) (before 0 x (omega arith)) ∙ omega (arith, rest)

-- if item `near` fails a test, the prefix of items that pass is as long in the first `near` items as in the whole list
pub prefix_near : {X : Type 0} (p : X → Bool) (near : ℕ) (xs : List X) (d : X) → near < length xs → p (get_or xs near d) ≡ false
    → prefix_len p (take near xs) ≡ prefix_len p xs
prefix_near p near [] d lt stops = absurd (omega arith)
prefix_near p zero (x ∷ xs) d lt stops = sym (ap (λ (t : Bool). cond t (1 + prefix_len p xs) 0) stops)
prefix_near p (suc near) (x ∷ xs) d lt stops = ap (λ n. cond (p x) (1 + n) 0) (prefix_near p near xs d (omega arith) stops)

pub behind_cons : {X : Type 0} (p : X → Bool) (x : X) (xs : List X) → drop (prefix_len p (x ∷ xs)) (x ∷ xs) ≡ cond (p x) (drop (prefix_len p xs) xs) (x ∷ xs)
behind_cons p x xs = go (p x) (omega arith)
  where
    go : (t : Bool) → suc (prefix_len p xs) ≡ 1 + prefix_len p xs → drop (cond t (1 + prefix_len p xs) 0) (x ∷ xs) ≡ cond t (drop (prefix_len p xs) xs) (x ∷ xs)
    go true one_more = sym (ap (λ n. drop n (x ∷ xs)) one_more)
    go false one_more = refl

-- if the items from index b to i - 1 are already removed, removing the item that is now at index b removes item i of `xs`
pub remove_next : {X : Type 0} (xs : List X) (b i : ℕ) → b ≤ i → i < length xs
    → remove (take b xs ++ drop i xs) b ≡ take b xs ++ drop (i + 1) xs
remove_next {X} xs b i le lt =
    let first : b - b ≡ 0 = omega arith in
    remove-append_right (take b xs) (drop i xs) b b (length-take-le b xs (omega arith)) (omega arith)
    ∙ (ap (λ (n : ℕ). take b xs ++ remove (drop i xs) n) first ∙ ap (λ (ys : List X). take b xs ++ ys) (drop-drop 1 i xs))

pub any_found : {X : Type 0} (test : X → Bool) (xs : List X) → is_some (find test xs) ≡ list_any test xs
any_found test [] = refl
any_found test (x ∷ xs) = go (test x) (any_found test xs)
  where
    go : (t : Bool) → is_some (find test xs) ≡ list_any test xs → is_some (cond t (Some x) (find test xs)) ≡ (t || list_any test xs)
    go true rest = refl
    go false rest = rest

-- if every item that passes the test also passes p, keeping only the items that pass p does not change whether some item passes
-- the test
pub any_kept : {X : Type 0} (test p : X → Bool) (xs : List X) → Each (λ x. test x ≡ true → p x ≡ true) xs → list_any test xs ≡ list_any test (filter p xs)
any_kept test p [] all = refl
any_kept test p (x ∷ xs) (passes, all) = go (p x) (test x) refl passes (any_kept test p xs all)
  where
    go : (s t : Bool) → test x ≡ t → (t ≡ true → s ≡ true) → list_any test xs ≡ list_any test (filter p xs)
        → (t || list_any test xs) ≡ list_any test (cond s (x ∷ filter p xs) (filter p xs))
    go true t is passes rest = (λ i. sym is i || rest i)
    go false true is passes rest = absurd (false≢true (passes refl))
    go false false is passes rest = rest

pub each_from : {X : Type 0} (P : X → Type 0) (xs : List X) → ((k : ℕ) (d : X) → k < length xs → P (get_or xs k d)) → Each P xs
each_from P [] all = tt
each_from P (x ∷ xs) all = (all 0 x (omega arith), each_from P xs (λ k d lt. all (suc k) d (omega arith)))

module _ {X : Type 0} (key : X → ℕ) where
  abbrev pub is_below : ℕ → X → Bool
  is_below bound x = nat_lt (key x) bound

  abbrev pub is_from : ℕ → X → Bool
  is_from low x = nat_le low (key x)

  abbrev pub is_within : ℕ → ℕ → X → Bool
  is_within low end x = nat_le low (key x) && nat_lt (key x) end

  pub one_key : (n : ℕ) (x : X) → is_within n (n + 1) x ≡ (key x == n)
  one_key n x = elim (cases_order (key x) n) [
    | inl same ↦ and_from _ _ (le-leb n (key x) (omega arith)) (lt-ltb (key x) (n + 1) (omega arith)) ∙ sym (eq-eqb _ _ same)
    | inr (inl less) ↦ and_left _ _ (lt-leb n (key x) less) ∙ sym (ne_eqb (key x) n (λ same. absurd (omega arith)))
    | inr (inr more) ↦ and_right _ _ (le-ltb (key x) (n + 1) (omega arith)) ∙ sym (ne_eqb (key x) n (λ same. absurd (omega arith)))
  ]

  rest_rises : (x : X) (xs : List X) → IsNonDecreasingBy key (x ∷ xs) → IsNonDecreasingBy key xs
  rest_rises x xs rise = λ i j d le lt. rise (suc i) (suc j) d (omega arith) (omega arith)

  all_from : (n : ℕ) (x : X) (xs : List X) → IsNonDecreasingBy key (x ∷ xs) → n ≤ key x → Each (λ y. n ≤ key y) xs
  all_from n x xs rise le = each_from (λ y. n ≤ key y) xs (λ k d lt. let up = rise 0 (suc k) d (omega arith) (omega arith) in omega arith)

  -- the first item whose key is at least `low` comes right after the prefix of items whose keys are below `low`
  pub found_from : (low : ℕ) (xs : List X) → find (is_from low) xs ≡ find (λ x. true) (take 1 (drop (prefix_len (is_below low) xs) xs))
  found_from low [] = refl
  found_from low (x ∷ xs) = go (is_below low x) refl (found_from low xs) ∙ ap (λ ys. find (λ x. true) (take 1 ys)) (sym (behind_cons (is_below low) x xs))
    where
      go : (t : Bool) → is_below low x ≡ t → find (is_from low) xs ≡ find (λ x. true) (take 1 (drop (prefix_len (is_below low) xs) xs))
          → find (is_from low) (x ∷ xs) ≡ find (λ x. true) (take 1 (cond t (drop (prefix_len (is_below low) xs) xs) (x ∷ xs)))
      go true e rest = ap (λ t. cond t (Some x) (find (is_from low) xs)) (lt-leb low (key x) (ltb-true _ _ e)) ∙ rest
      go false e rest = ap (λ t. cond t (Some x) (find (is_from low) xs)) (le-leb low (key x) (ltb-false _ _ e))

  -- Suppose that the test fails for each key below `low`. Suppose also that, if it fails for an item whose key is at least `low`,
  -- it fails for every item with the same or a larger key. Then a search with the test finds the first item whose key is at least
  -- `low`, or it finds nothing.
  pub first_decides : (low : ℕ) (test there : X → Bool) (xs : List X) → IsNonDecreasingBy key xs → ((x : X) → key x < low → test x ≡ false)
      → ((x : X) → low ≤ key x → test x ≡ there x) → ((x y : X) → low ≤ key x → key x ≤ key y → there x ≡ false → there y ≡ false)
      → find test xs ≡ option_map_or (λ x. cond (there x) (Some x) None) (find (is_from low) xs) None
  first_decides low test there [] rise before from falls = refl
  first_decides low test there (x ∷ xs) rise before from falls = go (is_from low x) refl (first_decides low test there xs (rest_rises x xs rise) before from falls)
    where
      none : (ys : List X) → Each (λ y. key x ≤ key y) ys → low ≤ key x → there x ≡ false → find test ys ≡ None
      none [] above le fails = refl
      none (y ∷ ys) (up, above) le fails = ap (λ t. cond t (Some y) (find test ys)) (from y (omega arith) ∙ falls x y le up fails) ∙ none ys above le fails

      here : (t : Bool) → there x ≡ t → low ≤ key x → cond t (Some x) (find test xs) ≡ cond t (Some x) None
      here true e le = refl
      here false e le = none xs (all_from (key x) x xs rise (omega arith)) le e

      go : (t : Bool) → is_from low x ≡ t
          → find test xs ≡ option_map_or (λ x. cond (there x) (Some x) None) (find (is_from low) xs) None
          → find test (x ∷ xs) ≡ option_map_or (λ x. cond (there x) (Some x) None) (cond t (Some x) (find (is_from low) xs)) None
      go true e rest = let le : low ≤ key x = leb-true _ _ e in
          ap (λ t. cond t (Some x) (find test xs)) (from x le) ∙ here (there x) refl le
      go false e rest = ap (λ t. cond t (Some x) (find test xs)) (before x (leb-false _ _ e)) ∙ rest

  pub within_from : (low end : ℕ) (xs : List X) → IsNonDecreasingBy key xs
      → find (is_within low end) xs ≡ option_map_or (λ x. cond (is_below end x) (Some x) None) (find (is_from low) xs) None
  within_from low end xs rise = first_decides low (is_within low end) (is_below end) xs rise
      (λ x lt. and_left _ _ (lt-leb low (key x) lt))
      (λ x le. ap (λ t. t && is_below end x) (le-leb low (key x) le))
      (λ x y le up fails. let past : end ≤ key x = ltb-false _ _ fails in le-ltb _ _ (omega arith))

  -- if the keys rise and all are at least `low`, the items with keys below `end` are a prefix of the list
  below_kept : (low end : ℕ) (xs : List X) → IsNonDecreasingBy key xs → Each (λ y. low ≤ key y) xs
      → filter (is_within low end) xs ≡ take (prefix_len (is_below end) xs) xs
  below_kept low end [] rise from = refl
  below_kept low end (x ∷ xs) rise (le, from) =
      ap (λ t. cond (t && is_below end x) (x ∷ filter (is_within low end) xs) (filter (is_within low end) xs)) (le-leb low (key x) le)
      ∙ go (is_below end x) refl (below_kept low end xs (rest_rises x xs rise) from) ∙ sym (take_while-cons (is_below end) x xs)
    where
      none : (ys : List X) → Each (λ y. end ≤ key y) ys → filter (is_within low end) ys ≡ []
      none [] above = refl
      none (y ∷ ys) (le, above) = ap (λ t. cond t (y ∷ filter (is_within low end) ys) (filter (is_within low end) ys)) (and_right _ _ (le-ltb (key y) end le)) ∙ none ys above

      go : (t : Bool) → is_below end x ≡ t → filter (is_within low end) xs ≡ take (prefix_len (is_below end) xs) xs
          → cond (true && t) (x ∷ filter (is_within low end) xs) (filter (is_within low end) xs) ≡ cond t (x ∷ take (prefix_len (is_below end) xs) xs) []
      go true e rest = ap (λ ys. x ∷ ys) rest
      go false e rest = none xs (all_from end x xs rise (ltb-false _ _ e))

  pub all_within : (low end : ℕ) (xs : List X) → IsNonDecreasingBy key xs → let from = drop (prefix_len (is_below low) xs) xs in
      filter (is_within low end) xs ≡ take (prefix_len (is_below end) from) from
  all_within low end [] rise = refl
  all_within low end (x ∷ xs) rise = go (is_below low x) refl (all_within low end xs (rest_rises x xs rise))
      ∙ ap (λ from. take (prefix_len (is_below end) from) from) (sym (behind_cons (is_below low) x xs))
    where
      go : (t : Bool) → is_below low x ≡ t
          → (let from = drop (prefix_len (is_below low) xs) xs in filter (is_within low end) xs ≡ take (prefix_len (is_below end) from) from)
          → let from = cond t (drop (prefix_len (is_below low) xs) xs) (x ∷ xs) in
          filter (is_within low end) (x ∷ xs) ≡ take (prefix_len (is_below end) from) from
      go true e rest = ap (λ t. cond (t && is_below end x) (x ∷ filter (is_within low end) xs) (filter (is_within low end) xs)) (lt-leb low (key x) (ltb-true _ _ e)) ∙ rest
      go false e rest = below_kept low end (x ∷ xs) rise (ltb-false _ _ e, all_from low x xs rise (ltb-false _ _ e))

  -- the items whose keys differ from n
  abbrev others : ℕ → List X → List X
  others n xs = filter (λ x. not (key x == n)) xs

  others_behind : (n : ℕ) (xs : List X) → IsNonDecreasingBy key xs → Each (λ y. n ≤ key y) xs → others n xs ≡ drop (prefix_len (is_below (n + 1)) xs) xs
  others_behind n [] rise from = refl
  others_behind n (x ∷ xs) rise (le, from) = go (is_below (n + 1) x) refl (others_behind n xs (rest_rises x xs rise) from) ∙ sym (behind_cons (is_below (n + 1)) x xs)
    where
      all : (ys : List X) → Each (λ y. n + 1 ≤ key y) ys → others n ys ≡ ys
      all [] above = refl
      all (y ∷ ys) (le, above) = ap (λ t. cond (not t) (y ∷ others n ys) (others n ys)) (ne_eqb (key y) n (λ same. absurd (omega arith))) ∙ ap (λ zs. y ∷ zs) (all ys above)

      go : (t : Bool) → is_below (n + 1) x ≡ t → others n xs ≡ drop (prefix_len (is_below (n + 1)) xs) xs
          → others n (x ∷ xs) ≡ cond t (drop (prefix_len (is_below (n + 1)) xs) xs) (x ∷ xs)
      go true e rest =
          let lt : key x < n + 1 = ltb-true _ _ e in
          ap (λ t. cond (not t) (x ∷ others n xs) (others n xs)) (eq-eqb (key x) n (omega arith)) ∙ rest
      go false e rest = all (x ∷ xs) (ltb-false _ _ e, all_from (n + 1) x xs rise (ltb-false _ _ e))

  pub others_kept : (n : ℕ) (xs : List X) → IsNonDecreasingBy key xs → let from = drop (prefix_len (is_below n) xs) xs in
      others n xs ≡ take (prefix_len (is_below n) xs) xs ++ drop (prefix_len (is_below (n + 1)) from) from
  others_kept n [] rise = refl
  others_kept n (x ∷ xs) rise = go (is_below n x) refl (others_kept n xs (rest_rises x xs rise))
      ∙ (λ i. let from = sym (behind_cons (is_below n) x xs) i in sym (take_while-cons (is_below n) x xs) i ++ drop (prefix_len (is_below (n + 1)) from) from)
    where
      go : (t : Bool) → is_below n x ≡ t
          → (let from = drop (prefix_len (is_below n) xs) xs in others n xs ≡ take (prefix_len (is_below n) xs) xs ++ drop (prefix_len (is_below (n + 1)) from) from)
          → let from = cond t (drop (prefix_len (is_below n) xs) xs) (x ∷ xs) in
          others n (x ∷ xs) ≡ cond t (x ∷ take (prefix_len (is_below n) xs) xs) [] ++ drop (prefix_len (is_below (n + 1)) from) from
      go true e rest =
          let lt : key x < n = ltb-true _ _ e in
          ap (λ t. cond (not t) (x ∷ others n xs) (others n xs)) (ne_eqb (key x) n (λ same. absurd (omega arith))) ∙ ap (λ ys. x ∷ ys) rest
      go false e rest = others_behind n (x ∷ xs) rise (ltb-false _ _ e, all_from n x xs rise (ltb-false _ _ e))

  -- `put_rising` inserts an item right after the prefix of items whose keys are not greater than its key
  pub put_behind : (x : X) (ys : List X) → put_rising key x ys ≡ insert ys (prefix_len (is_below (key x + 1)) ys) x
  put_behind x [] = refl
  put_behind x (y ∷ ys) = go (ltb (key x) (key y)) refl (put_behind x ys) (omega arith)
    where
      at : ℕ
      at = prefix_len (is_below (key x + 1)) ys

      go : (t : Bool) → ltb (key x) (key y) ≡ t → put_rising key x ys ≡ insert ys at x → suc at ≡ 1 + at
          → (if t then x ∷ (y ∷ ys) else y ∷ put_rising key x ys) ≡ insert (y ∷ ys) (cond (is_below (key x + 1) y) (1 + at) 0) x
      go true e rest one_more =
          let lt : key x < key y = ltb-true _ _ e in
          sym (ap (λ t. insert (y ∷ ys) (cond t (1 + at) 0) x) (le-ltb (key y) (key x + 1) (omega arith)))
      go false e rest one_more =
          let le : key y ≤ key x = ltb-false _ _ e in
          ap (λ zs. y ∷ zs) rest ∙ ap (λ n. insert (y ∷ ys) n x) one_more
          ∙ sym (ap (λ t. insert (y ∷ ys) (cond t (1 + at) 0) x) (lt-ltb (key y) (key x + 1) (omega arith)))

  pub put_rises : (x : X) (ys : List X) → IsNonDecreasingBy key ys → IsNonDecreasingBy key (put_rising key x ys)
  put_rises x ys rise =
      let n : ℕ = prefix_len (is_below (key x + 1)) ys in
      subst (IsNonDecreasingBy key) (sym (put_behind x ys)) (IsNonDecreasingBy-insert key ys n x rise (prefix_len-le-length (is_below (key x + 1)) ys)
      (λ k d lt. let below : key (get_or ys k d) < key x + 1 = ltb-true _ _ (prefix_len_passes (is_below (key x + 1)) ys k d lt) in omega (arith, below))
      (λ k d from lt.
      let stop : key x + 1 ≤ key (get_or ys n d) = ltb-false _ _ (prefix_len_stops (is_below (key x + 1)) ys d (omega arith)) in
      let up = rise n k d from lt in omega (arith, stop, up)))

  pub rising_from : (n : ℕ) (xs : List X) → RisesFrom n (map key xs) → IsNonDecreasingBy key xs
  rising_from n [] rises = λ i j d le lt. absurd (omega arith)
  rising_from n (x ∷ xs) (low, rises) = at (rising_from (key x + 1) xs rises)
    where
      later : (ys : List X) → Each (λ y. key x + 1 ≤ key y) ys → (j : ℕ) (d : X) → j < length ys → key x ≤ key (get_or ys j d)
      later [] all j d lt = absurd (omega arith)
      later (y ∷ ys) (le, all) zero d lt = omega arith
      later (y ∷ ys) (le, all) (suc j) d lt = later ys all j d (omega arith)

      at : IsNonDecreasingBy key xs → (i j : ℕ) (d : X) → i ≤ j → j < length (x ∷ xs) → key (get_or (x ∷ xs) i d) ≤ key (get_or (x ∷ xs) j d)
      at rest zero zero d le lt = omega arith
      at rest zero (suc j) d le lt = later xs (rises_above key (key x + 1) xs rises) j d (omega arith)
      at rest (suc i) zero d le lt = absurd (omega arith)
      at rest (suc i) (suc j) d le lt = rest i j d (omega arith) (omega arith)
