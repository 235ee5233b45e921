-- If the world of all tenants has a free superblock, the world in which a tenant is alone has one too.
use Rattle.std.proofs.Common.{◌≡◌, ◌≢◌, ℕ, zero, suc, ◌+◌, ◌≤◌, Bool, true, false, ◌||◌, ◌==◌, List, [], ◌∷◌, map, length, Option, Some, None, is_none, position, slice_get, replicate, refl, sym, ap, ◌∙◌, arith}
use Rattle.std.specs.Prelude.{if◌then◌else◌, is_some, slice_set}
use Rattle.std.specs.List.{list_any, list_all}
use Rattle.std.proofs.lemmas.Bool.{and_from, and_parts, false≢true, eq-eqb}
use Rattle.std.proofs.Math.Bool.{or-true}
use Rattle.model_core.specs.declared.owner.Owner.{Owner}
use Rattle.model_core.specs.Owners.{is_of, is_owner}
use Rattle.world_core.specs.World.{given_up}
use Rattle.promise_kept.proofs.SuperblockOwners.{pool_empty, pool_first, one_owner, nobodys, some_free}

abbrev pub Owners : Type 0
Owners = List (Option Owner)

-- the superblock is free or the tenant's
abbrev pub is_own_or_free : ℕ → Option Owner → Bool
is_own_or_free t None = true
is_own_or_free t (Some owner) = owner.tenant == t

abbrev pub one : Bool → ℕ
one true = 1
one false = 0

abbrev pub times : (Option Owner → Bool) → Owners → ℕ
times test [] = 0
times test (x ∷ xs) = one (test x) + times test xs

-- the list without the first element that passes the test
abbrev without : (Option Owner → Bool) → Owners → Owners
without test [] = []
without test (x ∷ xs) = if test x then xs else x ∷ without test xs

free_few : (xs : Owners) → nobodys xs ≤ length xs
free_few [] = omega arith
free_few (None ∷ xs) = omega (arith, free_few xs)
free_few (Some x ∷ xs) = omega (arith, free_few xs)

-- if an element passes the test, the list without the first one that passes is shorter by one
less_one : (test : Option Owner → Bool) (xs : Owners) → list_any test xs ≡ true → length xs ≡ suc (length (without test xs))
less_one test [] any = absurd (false≢true any)
less_one test (x ∷ xs) any = go (test x) any (less_one test xs)
  where
    go : (b : Bool) → (b || list_any test xs) ≡ true → (list_any test xs ≡ true → length xs ≡ suc (length (without test xs)))
        → suc (length xs) ≡ suc (length (if b then xs else x ∷ without test xs))
    go true any later = refl
    go false any later = ap suc (later any)

same_free : (test : Option Owner → Bool) (xs : Owners) → test None ≡ false → nobodys (without test xs) ≡ nobodys xs
same_free test [] none = refl
same_free test (None ∷ xs) none = rw none (ap (λ n. 1 + n) (same_free test xs none))
same_free test (Some x ∷ xs) none = go (test (Some x)) (same_free test xs none)
  where
    go : (b : Bool) → nobodys (without test xs) ≡ nobodys xs → nobodys (if b then xs else Some x ∷ without test xs) ≡ nobodys xs
    go true later = refl
    go false later = later

-- if no element passes both tests, removing an element that passes `test` does not change whether some element passes `other`
others_stay : (test other : Option Owner → Bool) (xs : Owners) → ((o : Option Owner) → test o ≡ true → other o ≡ false)
    → list_any other (without test xs) ≡ list_any other xs
others_stay test other [] apart = refl
others_stay test other (x ∷ xs) apart = go (test x) refl (others_stay test other xs apart)
  where
    go : (b : Bool) → test x ≡ b → list_any other (without test xs) ≡ list_any other xs
        → list_any other (if b then xs else x ∷ without test xs) ≡ (other x || list_any other xs)
    go true is later = ap (λ c. c || list_any other xs) (sym (apart x is))
    go false is later = ap (λ c. other x || c) later

some_times : (test : Option Owner → Bool) (xs : Owners) → list_any test xs ≡ true → 1 ≤ times test xs
some_times test [] any = absurd (false≢true any)
some_times test (x ∷ xs) any = go (test x) any (some_times test xs)
  where
    go : (b : Bool) → (b || list_any test xs) ≡ true → (list_any test xs ≡ true → 1 ≤ times test xs) → 1 ≤ one b + times test xs
    go true any later = omega arith
    go false any later = omega (arith, later any)

pub no_times : (test : Option Owner → Bool) (xs : Owners) → list_any test xs ≡ false → times test xs ≡ 0
no_times test [] none = refl
no_times test (x ∷ xs) none = go (test x) none (no_times test xs)
  where
    go : (b : Bool) → (b || list_any test xs) ≡ false → (list_any test xs ≡ false → times test xs ≡ 0) → one b + times test xs ≡ 0
    go true none later = absurd (false≢true (sym none))
    go false none later = omega (arith, later none)

-- Suppose that each superblock in `xs` is tenant t's, and that no two are in the same slot. If `ys` has a superblock of t in each
-- of these slots, at least as many superblocks in `ys` have an owner as there are superblocks in `xs`.
pigeons : (t : ℕ) (xs ys : Owners) → list_all (is_of t) xs ≡ true → ((u : ℕ) → times (is_owner t u) xs ≤ 1)
    → ((u : ℕ) → list_any (is_owner t u) xs ≡ true → list_any (is_owner t u) ys ≡ true) → length xs + nobodys ys ≤ length ys
pigeons t [] ys all once there = omega (arith, free_few ys)
pigeons t (None ∷ xs) ys all once there = absurd (false≢true all)
pigeons t (Some x ∷ xs) ys all once there =
    let parts : (x.tenant == t ≡ true) × (list_all (is_of t) xs ≡ true) = and_parts (x.tenant == t) (list_all (is_of t) xs) all in
    let mine : Option Owner → Bool = is_owner t x.slot in
    let here : mine (Some x) ≡ true = and_from (x.tenant == t) (x.slot == x.slot) parts.0 (eq-eqb x.slot x.slot refl) in
    let found : list_any mine ys ≡ true = there x.slot (ap (λ b. b || list_any mine xs) here) in
    let rest : length xs + nobodys (without mine ys) ≤ length (without mine ys) =
    pigeons t xs (without mine ys) parts.1
    (λ u. omega (arith, once u))
    (λ u any. others_stay mine (is_owner t u) ys (apart u (λ same. absurd (omega (arith, once u, some_times (is_owner t u) xs any, again u same)))) ∙ there u (ap (λ b. is_owner t u (Some x) || b) any ∙ or-true (is_owner t u (Some x)))) in
    omega (arith, rest, less_one mine ys found, same_free mine ys refl)
  where
    again : (u : ℕ) → x.slot ≡ u → one (is_owner t u (Some x)) ≡ 1
    again u same = ap one (and_from (x.tenant == t) (x.slot == u) (and_parts (x.tenant == t) (list_all (is_of t) xs) all).0 (eq-eqb x.slot u same))

    apart : (u : ℕ) → x.slot ≢ u → (o : Option Owner) → is_owner t x.slot o ≡ true → is_owner t u o ≡ false
    apart u differ o is = go (is_owner t u o) refl
      where
        go : (b : Bool) → is_owner t u o ≡ b → b ≡ false
        go true also = absurd (differ (one_owner t x.slot t u o is also).1)
        go false also = refl

both : (t : ℕ) (xs : Owners) → list_all is_some xs ≡ true → list_all (is_own_or_free t) xs ≡ true → list_all (is_of t) xs ≡ true
both t [] taken own = refl
both t (None ∷ xs) taken own = absurd (false≢true taken)
both t (Some x ∷ xs) taken own =
    let parts = and_parts (x.tenant == t) (list_all (is_own_or_free t) xs) own in
    and_from (x.tenant == t) (list_all (is_of t) xs) parts.0 (both t xs taken parts.1)

-- Suppose that each superblock in `alone` is free or the tenant's, and that no two of the tenant's are in the same slot. If
-- `whole` has as many superblocks as `alone`, the same slots of the tenant, and a free superblock, `alone` has a free superblock
-- too.
pub alone_has_room : (t : ℕ) (whole alone : Owners) (found : Option ℕ) → list_all (is_own_or_free t) alone ≡ true → ((u : ℕ) → times (is_owner t u) alone ≤ 1)
    → ((u : ℕ) → list_any (is_owner t u) alone ≡ list_any (is_owner t u) whole) → length alone ≡ length whole → position is_none alone ≡ found
    → is_none (position is_none whole) ≡ false → is_none found ≡ false
alone_has_room t whole alone (Some j) only once same size is room = refl
alone_has_room t whole alone None only once same size is room = absurd (go (position is_none whole) refl room)
  where
    go : (first : Option ℕ) → position is_none whole ≡ first → is_none first ≡ false → ⊥
    go None is_first room = false≢true (sym room)
    go (Some j) is_first room = omega (
      arith,
      size,
      some_free whole j (pool_first whole j is_first),
      pigeons t alone whole (both t alone (pool_empty alone is) only) once (λ u any. sym (same u) ∙ any),
    )

-- Superblocks granted and given up

pub granted_times : (test : Option Owner → Bool) (xs : Owners) (j : ℕ) (x : Option Owner) → slice_get xs j ≡ Some None → test None ≡ false
    → times test (slice_set xs j x) ≡ one (test x) + times test xs
granted_times test [] j x e none = absurd (cc)
granted_times test (y ∷ xs) zero x e none =
    let same : y ≡ None = cc in
    let was : one (test y) ≡ 0 = ap one (ap test same ∙ none) in omega (arith, was)
granted_times test (y ∷ xs) (suc j) x e none = omega (arith, granted_times test xs j x e none)

pub granted_all : (test : Option Owner → Bool) (xs : Owners) (j : ℕ) (x : Option Owner) → list_all test xs ≡ true → test x ≡ true → list_all test (slice_set xs j x) ≡ true
granted_all test [] j x all is = refl
granted_all test (y ∷ xs) zero x all is = and_from (test x) (list_all test xs) is (and_parts (test y) (list_all test xs) all).1
granted_all test (y ∷ xs) (suc j) x all is =
    let parts = and_parts (test y) (list_all test xs) all in
    and_from (test y) (list_all test (slice_set xs j x)) parts.0 (granted_all test xs j x parts.1 is)

pub given_times : (test gone : Option Owner → Bool) (xs : Owners) → test None ≡ false → times test (map (given_up gone) xs) ≤ times test xs
given_times test gone [] none = omega arith
given_times test gone (x ∷ xs) none = omega (arith, go (gone x), given_times test gone xs none)
  where
    go : (b : Bool) → one (test (if b then None else x)) ≤ one (test x)
    go true = let zero_now : one (test None) ≡ 0 = ap one none in omega (arith, zero_now)
    go false = omega arith

pub given_all : (test gone : Option Owner → Bool) (xs : Owners) → test None ≡ true → list_all test xs ≡ true → list_all test (map (given_up gone) xs) ≡ true
given_all test gone [] none all = refl
given_all test gone (x ∷ xs) none all =
    let parts = and_parts (test x) (list_all test xs) all in
    and_from (test (given_up gone x)) (list_all test (map (given_up gone) xs)) (go (gone x) parts.0) (given_all test gone xs none parts.1)
  where
    go : (b : Bool) → test x ≡ true → test (if b then None else x) ≡ true
    go true is = none
    go false is = is

pub new_all : (t n : ℕ) → list_all (is_own_or_free t) (replicate n None) ≡ true
new_all t zero = refl
new_all t (suc n) = new_all t n

pub new_times : (t u n : ℕ) → times (is_owner t u) (replicate n None) ≡ 0
new_times t u zero = refl
new_times t u (suc n) = omega (arith, new_times t u n)
