-- The owners of superblocks. The lemmas are about the pool, about giving up and granting superblocks, and about the number of
-- superblocks.
use Rattle.std.proofs.Common.{◌≡◌, ◌≢◌, ℕ, zero, suc, ◌+◌, ◌<◌, ◌≤◌, Bool, true, false, ◌&&◌, ◌||◌, cond, eqb, List, [], ◌∷◌, map, length, Option, Some, None, is_none, position, slice_get, refl, sym, ap, ◌∙◌, subst, ⊎_elim, arith}
use Rattle.std.specs.Prelude.{if◌then◌else◌, is_some, find, slice_set}
use Rattle.std.specs.List.{list_any, list_all, position_or_len, position_from, zip}
use Rattle.std.specs.Option.{option_map_or, option_eq}
use Rattle.std.proofs.lemmas.Bool.{and_from, and_parts, false≢true, eqb-true, eq-eqb, ne_eqb, cases_eq}
use Rattle.std.proofs.lemmas.Iterator.Adapters.{position_from-zero}
use Rattle.std.proofs.lemmas.List.Folds.{find_at}
use Rattle.std.proofs.Math.Bool.{or-true, and-false}
use Rattle.model_core.specs.declared.owner.Owner.{Owner}
use Rattle.model_core.specs.Choice.{count_below}
use Rattle.model_core.specs.Machine.{least_missing}
use Rattle.model_core.specs.Owners.{is_of, is_owner}
use Rattle.model_core.proofs.CountBelow.{bit, count_none}
use Rattle.model_core.proofs.Lists.{or_turned}
use Rattle.world_core.specs.World.{given_up}

abbrev Owners : Type 0
Owners = List (Option Owner)

-- The pool

none_free : (i : ℕ) (xs : Owners) → position_from is_none i xs ≡ None → list_all is_some xs ≡ true
none_free i [] e = refl
none_free i (None ∷ xs) e = absurd (cc)
none_free i (Some x ∷ xs) e = none_free (i + 1) xs e

pub pool_empty : (xs : Owners) → position is_none xs ≡ None → list_all is_some xs ≡ true
pool_empty xs e = none_free 0 xs (sym (position_from-zero is_none xs) ∙ e)

one_free : (i j : ℕ) (xs : Owners) → position_from is_none i xs ≡ Some j → (n : ℕ) × (j ≡ i + n) × (slice_get xs n ≡ Some None)
one_free i j [] e = absurd (cc)
one_free i j (None ∷ xs) e = let same : i ≡ j = cc in (0, omega (arith, same), refl)
one_free i j (Some x ∷ xs) e = let r : (n : ℕ) × (j ≡ i + 1 + n) × (slice_get xs n ≡ Some None) = one_free (i + 1) j xs e in (suc r.0, omega (arith, r.1), r.2)

-- if `position` returns j when it searches for a superblock without an owner, superblock j has no owner
pub pool_first : (xs : Owners) (j : ℕ) → position is_none xs ≡ Some j → slice_get xs j ≡ Some None
pool_first xs j e = let r : (n : ℕ) × (j ≡ 0 + n) × (slice_get xs n ≡ Some None) = one_free 0 j xs (sym (position_from-zero is_none xs) ∙ e) in
    let same : r.0 ≡ j = omega (arith, r.1) in subst (λ n. slice_get xs n ≡ Some None) same r.2

pub not_all_owned : (xs : Owners) (j : ℕ) → slice_get xs j ≡ Some None → list_all is_some xs ≡ false
not_all_owned [] j e = absurd (cc)
not_all_owned (None ∷ xs) zero e = refl
not_all_owned (Some x ∷ xs) zero e = absurd (cc)
not_all_owned (None ∷ xs) (suc j) e = refl
not_all_owned (Some x ∷ xs) (suc j) e = not_all_owned xs j e

-- Giving up and granting superblocks

-- The superblocks whose owners pass `test` are given up. If no owner passes both `test` and `mine`, this does not change whether
-- the owner of some superblock passes `mine`.
pub given_others : (test mine : Option Owner → Bool) (xs : Owners) → ((o : Option Owner) → mine o ≡ true → test o ≡ false) → mine None ≡ false
    → list_any mine (map (given_up test) xs) ≡ list_any mine xs
given_others test mine [] apart none = refl
given_others test mine (x ∷ xs) apart none = ap (λ b. b || list_any mine (map (given_up test) xs)) (go (test x) (mine x) refl refl) ∙ ap (λ b. mine x || b) (given_others test mine xs apart none)
  where
    go : (b c : Bool) → test x ≡ b → mine x ≡ c → mine (if b then None else x) ≡ mine x
    go false c is own = refl
    go true true is own = absurd (false≢true (sym (apart x own) ∙ is))
    go true false is own = none ∙ sym own

-- The superblocks whose owners pass `test` are given up. If every owner that passes `mine` passes `test`, no superblock's owner
-- passes `mine` afterwards.
pub given_own : (test mine : Option Owner → Bool) (xs : Owners) → ((o : Option Owner) → mine o ≡ true → test o ≡ true) → mine None ≡ false
    → list_any mine (map (given_up test) xs) ≡ false
given_own test mine [] all none = refl
given_own test mine (x ∷ xs) all none = ap (λ b. b || list_any mine (map (given_up test) xs)) (go (test x) (mine x) refl refl) ∙ given_own test mine xs all none
  where
    go : (b c : Bool) → test x ≡ b → mine x ≡ c → mine (if b then None else x) ≡ false
    go true c is own = none
    go false true is own = absurd (false≢true (sym is ∙ all x own))
    go false false is own = own

pub granted_any : (mine : Option Owner → Bool) (xs : Owners) (j : ℕ) (x : Option Owner) → slice_get xs j ≡ Some None → mine None ≡ false
    → list_any mine (slice_set xs j x) ≡ (mine x || list_any mine xs)
granted_any mine [] j x e none = absurd (cc)
granted_any mine (y ∷ xs) zero x e none = let same : y ≡ None = cc in ap (λ b. mine x || b) (sym (ap (λ b. b || list_any mine xs) (ap mine same ∙ none)))
granted_any mine (y ∷ xs) (suc j) x e none = ap (λ b. mine y || b) (granted_any mine xs j x e none) ∙ or_turned (mine y) (mine x) (list_any mine xs)

-- a superblock without an owner still has none after superblocks are given up
pub given_free : (test : Option Owner → Bool) (xs : Owners) (j : ℕ) → slice_get xs j ≡ Some None → slice_get (map (given_up test) xs) j ≡ Some None
given_free test [] j e = absurd (cc)
given_free test (x ∷ xs) zero e = let same : x ≡ None = cc in ap (λ y. Some y) (go (test x) same)
  where
    go : (b : Bool) → x ≡ None → (if b then None else x) ≡ None
    go true same = refl
    go false same = same
given_free test (x ∷ xs) (suc j) e = given_free test xs j e

-- if some superblock passes a test, the superblock at the index that `position_or_len` returns passes it
pub first_passes : (test : Option Owner → Bool) (xs : Owners) → list_any test xs ≡ true → option_map_or test (slice_get xs (position_or_len test xs)) false ≡ true
first_passes test xs e = ap (λ o. option_map_or test o false) (sym (find_at test xs)) ∙ found xs e
  where
    found : (xs : Owners) → list_any test xs ≡ true → option_map_or test (find test xs) false ≡ true
    found [] e = e
    found (x ∷ xs) e = go (test x) refl e (found xs)
      where
        go : (b : Bool) → test x ≡ b → (b || list_any test xs) ≡ true → (list_any test xs ≡ true → option_map_or test (find test xs) false ≡ true) → option_map_or test (cond b (Some x) (find test xs)) false ≡ true
        go true is e later = is
        go false is e later = later e

pub one_owner : (t u v x : ℕ) (o : Option Owner) → is_owner t u o ≡ true → is_owner v x o ≡ true → (t ≡ v) × (u ≡ x)
one_owner t u v x None e f = absurd (false≢true e)
one_owner t u v x (Some o) e f =
    let a : (eqb o.tenant t ≡ true) × (eqb o.slot u ≡ true) = and_parts (eqb o.tenant t) (eqb o.slot u) e in
    let b : (eqb o.tenant v ≡ true) × (eqb o.slot x ≡ true) = and_parts (eqb o.tenant v) (eqb o.slot x) f in
    (sym (eqb-true o.tenant t a.0) ∙ eqb-true o.tenant v b.0, sym (eqb-true o.slot u a.1) ∙ eqb-true o.slot x b.1)

pub owner_of : (t u v : ℕ) (o : Option Owner) → is_owner t u o ≡ true → is_of v o ≡ eqb t v
owner_of t u v None e = absurd (false≢true e)
owner_of t u v (Some o) e = let a : (eqb o.tenant t ≡ true) × (eqb o.slot u ≡ true) = and_parts (eqb o.tenant t) (eqb o.slot u) e in ap (λ n. eqb n v) (eqb-true o.tenant t a.0)

-- The number of superblocks

-- the number of superblocks without an owner
abbrev pub nobodys : Owners → ℕ
nobodys [] = 0
nobodys (None ∷ xs) = 1 + nobodys xs
nobodys (Some x ∷ xs) = nobodys xs

pub some_free : (xs : Owners) (j : ℕ) → slice_get xs j ≡ Some None → 1 ≤ nobodys xs
some_free [] j e = absurd (cc)
some_free (None ∷ xs) j e = omega arith
some_free (Some x ∷ xs) zero e = absurd (cc)
some_free (Some x ∷ xs) (suc j) e = some_free xs j e

count_all : (p : ℕ → Bool) (n : ℕ) → ((v : ℕ) → v < n → p v ≡ true) → count_below p n ≡ n
count_all p zero on = refl
count_all p (suc n) on = let rest : count_below p n ≡ n = count_all p n (λ v lt. on v (omega (arith, lt))) in
    let here : bit (p n) ≡ 1 = ap bit (on n (omega arith)) in omega (arith, rest, here)

count_either : (p q : ℕ → Bool) (n : ℕ) → count_below (λ v. p v || q v) n ≤ count_below p n + count_below q n
count_either p q zero = omega arith
count_either p q (suc n) = let rest : count_below (λ v. p v || q v) n ≤ count_below p n + count_below q n = count_either p q n in
    let here : bit (p n || q n) ≤ bit (p n) + bit (q n) = go (p n) (q n) in omega (arith, rest, here)
  where
    go : (a b : Bool) → bit (a || b) ≤ bit a + bit b
    go true true = omega arith
    go true false = omega arith
    go false true = omega arith
    go false false = omega arith

-- at most one number below n equals s
count_slot : (b : Bool) (s n : ℕ) → count_below (λ v. b && eqb s v) n ≤ 1
count_slot b s zero = omega arith
count_slot b s (suc n) = ⊎_elim
    (λ same. let none : count_below (λ v. b && eqb s v) n ≡ 0 = count_none (λ v. b && eqb s v) n (λ v lt. ap (λ c. b && c) (ne_eqb s v (λ e. absurd (omega (arith, e, same, lt)))) ∙ and-false b) in
    let here : bit (b && eqb s n) ≤ 1 = one (b && eqb s n) in omega (arith, none, here))
    (λ differ. let here : bit (b && eqb s n) ≡ 0 = ap bit (ap (λ c. b && c) (ne_eqb s n differ) ∙ and-false b) in
    let rest : count_below (λ v. b && eqb s v) n ≤ 1 = count_slot b s n in omega (arith, here, rest))
    (cases_eq s n)
  where
    one : (a : Bool) → bit a ≤ 1
    one true = omega arith
    one false = omega arith

owned_most : (t n : ℕ) (xs : Owners) → count_below (λ v. list_any (is_owner t v) xs) n + nobodys xs ≤ length xs
owned_most t n [] = let none : count_below (λ v. list_any (is_owner t v) []) n ≡ 0 = count_none (λ v. list_any (is_owner t v) []) n (λ v lt. refl) in omega (arith, none)
owned_most t n (None ∷ xs) =
    let rest : count_below (λ v. list_any (is_owner t v) xs) n + nobodys xs ≤ length xs = owned_most t n xs in omega (arith, rest)
owned_most t n (Some x ∷ xs) =
    let rest : count_below (λ v. list_any (is_owner t v) xs) n + nobodys xs ≤ length xs = owned_most t n xs in
    let both : count_below (λ v. (eqb x.tenant t && eqb x.slot v) || list_any (is_owner t v) xs) n ≤ count_below (λ v. eqb x.tenant t && eqb x.slot v) n + count_below (λ v. list_any (is_owner t v) xs) n =
    count_either (λ v. eqb x.tenant t && eqb x.slot v) (λ v. list_any (is_owner t v) xs) n in
    omega (arith, rest, both, count_slot (eqb x.tenant t) x.slot n)

-- if some superblock has no owner, and tenant t owns a superblock for each slot below n, there are more than n superblocks
pub slots_fewer : (t n : ℕ) (xs : Owners) (j : ℕ) → slice_get xs j ≡ Some None → ((v : ℕ) → v < n → list_any (is_owner t v) xs ≡ true) → n < length xs
slots_fewer t n xs j e all = omega (arith, some_free xs j e, owned_most t n xs, count_all (λ v. list_any (is_owner t v) xs) n all)

-- a list contains every number v for which n ≤ v < least_missing n xs
pub below_missing : (n v : ℕ) (xs : List ℕ) → n ≤ v → v < least_missing n xs → list_any (λ x. eqb x v) xs ≡ true
below_missing n v [] low lt = absurd (omega (arith, low, lt))
below_missing n v (x ∷ xs) low lt = go (eqb x n) refl lt (below_missing (n + 1) v xs)
  where
    go : (b : Bool) → eqb x n ≡ b → v < (if b then least_missing (n + 1) xs else n) → (n + 1 ≤ v → v < least_missing (n + 1) xs → list_any (λ y. eqb y v) xs ≡ true) → (eqb x v || list_any (λ y. eqb y v) xs) ≡ true
    go false is lt rest = absurd (omega (arith, low, lt))
    go true is lt rest = ⊎_elim
        (λ same. ap (λ b. b || list_any (λ y. eqb y v) xs) (eq-eqb x v (eqb-true x n is ∙ same)))
        (λ differ. ap (λ b. eqb x v || b) (rest (above differ) lt) ∙ or-true (eqb x v))
        (cases_eq n v)
      where
        above : n ≢ v → n + 1 ≤ v
        above differ = omega (arith, low, differ)

pub same_owners : (xs : Owners) → list_all (λ p. option_eq (λ x y. eqb x.tenant y.tenant && eqb x.slot y.slot) p.0 p.1) (zip xs xs) ≡ true
same_owners [] = refl
same_owners (None ∷ xs) = same_owners xs
same_owners (Some x ∷ xs) = and_from _ _ (and_from (eqb x.tenant x.tenant) (eqb x.slot x.slot) (eq-eqb x.tenant x.tenant refl) (eq-eqb x.slot x.slot refl)) (same_owners xs)
