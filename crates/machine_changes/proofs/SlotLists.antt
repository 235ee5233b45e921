-- A rising list of held slots after a slot is added or removed, and the least number that the list lacks.
use Rattle.std.proofs.Common.{◌≡◌, ◌≢◌, ℕ, ◌+◌, ◌<◌, ◌≤◌, Bool, true, false, not, ◌||◌, cond, eqb, List, [], ◌∷◌, Some, None, refl, sym, ap, ◌∙◌, subst, ⊎_elim, arith}
use Rattle.std.specs.Prelude.{filter, find, Option, is_some}
use Rattle.std.proofs.lemmas.Bool.{false≢true, eq-eqb, ne_eqb, cases_eq, cases_lt}
use Rattle.std.proofs.lemmas.List.{map-id}
use Rattle.model_core.specs.Machine.{put_rising, least_missing}
use Rattle.model_core.specs.WellFormed.{RisesFrom}
use Rattle.model_core.proofs.Lists.{any_in, each_from, put_rises, filter_rises, none_of}
use Rattle.model_core.proofs.RisingLists.{has, none_below}
use Rattle.machine_changes.proofs.Lookups.{eq_turned, found_put, found_kept, through}

-- u if the list has u, or None
abbrev slot_in : ℕ → List ℕ → Option ℕ
slot_in u xs = find (λ v. eqb v u) xs

has_is : (u : ℕ) (xs : List ℕ) → has u xs ≡ is_some (slot_in u xs)
has_is u [] = refl
has_is u (x ∷ xs) = go (eqb x u) (has_is u xs)
  where
    go : (v : Bool) → has u xs ≡ is_some (slot_in u xs) → (v || has u xs) ≡ is_some (cond v (Some x) (slot_in u xs))
    go true more = refl
    go false more = more

-- After a slot is added

pub has_put : (u : ℕ) (xs : List ℕ) (v : ℕ) → has u xs ≡ false → has v (put_rising (λ x. x) u xs) ≡ cond (eqb v u) true (has v xs)
has_put u xs v new =
    has_is v (put_rising (λ x. x) u xs)
    ∙ ap is_some (found_put (λ x. x) u v xs (none_of (slot_in u xs) (sym (has_is u xs) ∙ new)))
    ∙ through is_some (eqb u v) (Some u) (slot_in v xs)
    ∙ ap (λ w. cond w true (is_some (slot_in v xs))) (eq_turned u v)
    ∙ ap (cond (eqb v u) true) (sym (has_is v xs))

pub put_still_rises : (u : ℕ) (xs : List ℕ) → RisesFrom 0 xs → has u xs ≡ false → RisesFrom 0 (put_rising (λ x. x) u xs)
put_still_rises u xs rises new =
    subst (λ ys. RisesFrom 0 ys) (map-id (put_rising (λ x. x) u xs))
    (put_rises (λ x. x) 0 u xs (subst (λ ys. RisesFrom 0 ys) (sym (map-id xs)) rises) (omega arith)
    (each_from (λ y. y ≢ u) xs (λ y i same. false≢true (sym new ∙ any_in (λ v. eqb v u) y xs i (eq-eqb y u same)))))

-- After a slot is removed

pub has_less : (u : ℕ) (xs : List ℕ) (v : ℕ) → has v (filter (λ x. not (eqb x u)) xs) ≡ cond (eqb v u) false (has v xs)
has_less u xs v =
    has_is v (filter (λ x. not (eqb x u)) xs)
    ∙ ap is_some (found_kept (λ x. x) (λ x. eqb x u) v xs)
    ∙ through is_some (eqb v u) None (slot_in v xs)
    ∙ ap (cond (eqb v u) false) (sym (has_is v xs))

pub less_still_rises : (u : ℕ) (xs : List ℕ) → RisesFrom 0 xs → RisesFrom 0 (filter (λ x. not (eqb x u)) xs)
less_still_rises u xs rises =
    subst (λ ys. RisesFrom 0 ys) (map-id (filter (λ x. not (eqb x u)) xs))
    (filter_rises (λ x. x) (λ x. not (eqb x u)) 0 xs (subst (λ ys. RisesFrom 0 ys) (sym (map-id xs)) rises))

-- if a rising list lacks u and has all numbers from n to u - 1, u is the least number from n on that it lacks
pub least_missing_is : (n u : ℕ) (xs : List ℕ) → RisesFrom n xs → n ≤ u → has u xs ≡ false → ((v : ℕ) → n ≤ v → v < u → has v xs ≡ true)
    → least_missing n xs ≡ u
least_missing_is n u [] rises low missing below =
    ⊎_elim (λ less. absurd (false≢true (below n (omega arith) less))) (λ le. omega arith) (cases_lt n u)
least_missing_is n u (x ∷ xs) (first, rises) low missing below =
    ⊎_elim (at_head (least_missing_is (n + 1) u xs)) past_it (cases_eq x n)
  where
    lacks : x ≢ u
    lacks same = false≢true (sym missing ∙ ap (λ v. v || has u xs) (eq-eqb x u same))

    missing_after : has u xs ≡ false
    missing_after = sym (ap (λ v. v || has u xs) (ne_eqb x u lacks)) ∙ missing

    below_after : x ≡ n → (v : ℕ) → n + 1 ≤ v → v < u → has v xs ≡ true
    below_after same v above less =
        sym (ap (λ w. w || has v xs) (ne_eqb x v (λ e. absurd (omega arith)))) ∙ below v (omega arith) less

    at_head : (RisesFrom (n + 1) xs → n + 1 ≤ u → has u xs ≡ false → ((v : ℕ) → n + 1 ≤ v → v < u → has v xs ≡ true) → least_missing (n + 1) xs ≡ u)
        → x ≡ n → least_missing n (x ∷ xs) ≡ u
    at_head more same =
        let higher : n + 1 ≤ u = omega (arith, lacks) in
        ap (λ v. cond v (least_missing (n + 1) xs) n) (eq-eqb x n same)
        ∙ more (subst (λ k. RisesFrom (k + 1) xs) same rises) higher missing_after (below_after same)

    past_it : x ≢ n → least_missing n (x ∷ xs) ≡ u
    past_it other =
        let above : n < x = omega arith in
        let absent : has n (x ∷ xs) ≡ false = none_below (n + 1) n (x ∷ xs) (omega arith, rises) (omega arith) in
        ap (λ v. cond v (least_missing (n + 1) xs) n) (ne_eqb x n other)
        ∙ ⊎_elim (λ less. absurd (false≢true (sym absent ∙ below n (omega arith) less))) (λ le. omega arith) (cases_lt n u)
