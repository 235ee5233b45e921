-- If the keys of a list rise, as the numbers of caches do, then changing all items with one key changes at most one item.
use Rattle.std.proofs.Common.{◌≡◌, ◌≢◌, ℕ, suc, ◌+◌, ◌<◌, ◌≤◌, Bool, true, false, not, eqb, ltb, cond, refl, ap, ◌∙◌, arith}
use Rattle.std.proofs.Common.{List, [], ◌∷◌, length, map, get_or, Option, Some, None}
use Rattle.std.proofs.Math.ListN.{set}
use Rattle.std.specs.Prelude.{if◌then◌else◌, find, position, Result, Ok, Err, IfOk, OnErr}
use Rattle.std.specs.List.{prefix_len, AllByRecursion as Each}
use Rattle.std.proofs.lemmas.Bool.{eqb-true, eqb-false, ne_eqb, ltb-true, ltb-false}
use Rattle.model_core.specs.WellFormed.{RisesFrom}
use Rattle.promise_core.specs.Holdings.{KnownCache}

-- the index of the first item with key n, or the length of the list if no item has this key
abbrev index : {X : Type 0} → (X → ℕ) → ℕ → List X → ℕ
index key n xs = prefix_len (λ x. not (eqb (key x) n)) xs

-- the list after `change` is applied to every item with key n
abbrev changed : {X : Type 0} → (X → ℕ) → ℕ → (X → X) → List X → List X
changed {X} key n change xs = map {B = X} (λ (x : X). if eqb (key x) n then change x else x) xs

-- if the keys rise and all are greater than n, changing the items with key n changes nothing
others_stay : {X : Type 0} (key : X → ℕ) (n m : ℕ) (change : X → X) (xs : List X) → n < m → RisesFrom m (map key xs)
    → changed key n change xs ≡ xs
others_stay key n m change [] lt rises = refl
others_stay key n m change (x ∷ xs) lt (low, rises) =
    ap (λ b. (if b then change x else x) ∷ changed key n change xs) (ne_eqb (key x) n (λ same. absurd (omega arith)))
    ∙ ap (λ ys. x ∷ ys) (others_stay key n (key x + 1) change xs (omega arith) rises)

at_index : {X : Type 0} (key : X → ℕ) (n m : ℕ) (change : X → X) (d : X) (xs : List X) → RisesFrom m (map key xs)
    → index key n xs < length xs → changed key n change xs ≡ set xs (index key n xs) (change (get_or xs (index key n xs) d))
at_index key n m change d [] rises lt = absurd (omega arith)
at_index {X} key n m change d (x ∷ xs) (low, rises) lt =
    go (eqb (key x) n) refl lt (λ lt. at_index key n (key x + 1) change d xs rises lt)
  where
    go : (b : Bool) → eqb (key x) n ≡ b → cond (not b) (1 + index key n xs) 0 < length (x ∷ xs)
        → (index key n xs < length xs
        → changed key n change xs ≡ set xs (index key n xs) (change (get_or xs (index key n xs) d)))
        → (if b then change x else x) ∷ changed key n change xs
        ≡ set (x ∷ xs) (cond (not b) (1 + index key n xs) 0) (change (get_or (x ∷ xs) (cond (not b) (1 + index key n xs) 0) d))
    go true same lt rest =
        let e : key x ≡ n = eqb-true (key x) n same in
        ap (λ ys. change x ∷ ys) (others_stay key n (key x + 1) change xs (omega arith) rises)
    go false other lt rest = ap (λ ys. x ∷ ys) (rest (omega arith))
        ∙ ap (λ k. set (x ∷ xs) k (change (get_or (x ∷ xs) k d)))
        (let e : suc (index key n xs) ≡ 1 + index key n xs = omega arith in e)

nowhere : {X : Type 0} (key : X → ℕ) (n : ℕ) (change : X → X) (xs : List X) → length xs ≤ index key n xs
    → changed key n change xs ≡ xs
nowhere key n change [] le = refl
nowhere {X} key n change (x ∷ xs) le = go (eqb (key x) n) le (λ le. nowhere key n change xs le)
  where
    go : (b : Bool) → length (x ∷ xs) ≤ cond (not b) (1 + index key n xs) 0
        → (length xs ≤ index key n xs → changed key n change xs ≡ xs)
        → (if b then change x else x) ∷ changed key n change xs ≡ x ∷ xs
    go true le rest = absurd (omega arith)
    go false le rest = ap (λ ys. x ∷ ys) (rest (omega arith))

-- if the keys rise and an item has key n, changing the items with key n changes only this item
pub changed_at : {X : Type 0} (key : X → ℕ) (n i : ℕ) (change : X → X) (d : X) (xs : List X) → RisesFrom 0 (map key xs)
    → position (λ x. eqb (key x) n) xs ≡ Some i → changed key n change xs ≡ set xs i (change (get_or xs i d))
changed_at {X} key n i change d xs rises is = go (ltb (index key n xs) (length xs)) refl is
  where
    go : (b : Bool) → ltb (index key n xs) (length xs) ≡ b → cond b (Some (index key n xs)) None ≡ Some i
        → changed key n change xs ≡ set xs i (change (get_or xs i d))
    go true lt is =
        let e : index key n xs ≡ i = cc in
        at_index key n 0 change d xs rises (ltb-true _ _ lt) ∙ ap (λ k. set xs k (change (get_or xs k d))) e
    go false lt is = absurd (cc)

-- if no item has key n, changing the items with key n changes nothing
pub changed_none : {X : Type 0} (key : X → ℕ) (n : ℕ) (change : X → X) (xs : List X) → position (λ x. eqb (key x) n) xs ≡ None
    → changed key n change xs ≡ xs
changed_none key n change xs none = go (ltb (index key n xs) (length xs)) refl none
  where
    go : (b : Bool) → ltb (index key n xs) (length xs) ≡ b → cond b (Some (index key n xs)) None ≡ None
        → changed key n change xs ≡ xs
    go true lt is = absurd (cc)
    go false lt is = nowhere key n change xs (ltb-false _ _ lt)

-- if a successful call changes only the live objects of a cache, and a failed call changes nothing, the cache keeps its number
pub number_stays : {E : Type 0} (r : Result (Unit {0}) E) (change : List ℕ → List ℕ) (old new : KnownCache)
    → IfOk r (λ _. new ≡ record old { live = change old.live }) → OnErr r (new ≡ old) → new.number ≡ old.number
number_stays (Ok u) change old new ok err = ap (λ (c : KnownCache). c.number) ok
number_stays (Err e) change old new ok err = ap (λ (c : KnownCache). c.number) err

pub none_of : {X : Type 0} (o : Option X) → ((x : X) → o ≡ Some x → ⊥) → o ≡ None
none_of None not = refl
none_of (Some x) not = absurd (not x refl)

-- if a search for key n finds no item, every item has another key
pub all_other : {X : Type 0} (key : X → ℕ) (n : ℕ) (xs : List X) → find (λ x. eqb (key x) n) xs ≡ None
    → Each (λ x. key x ≢ n) xs
all_other key n [] none = tt
all_other {X} key n (x ∷ xs) none = go (eqb (key x) n) refl none (all_other key n xs)
  where
    go : (b : Bool) → eqb (key x) n ≡ b → cond b (Some x) (find (λ y. eqb (key y) n) xs) ≡ None
        → (find (λ y. eqb (key y) n) xs ≡ None → Each (λ y. key y ≢ n) xs) → Each (λ y. key y ≢ n) (x ∷ xs)
    go true same none rest = absurd (cc)
    go false other none rest = (eqb-false (key x) n other, rest none)
