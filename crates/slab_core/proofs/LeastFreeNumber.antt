-- The least number that no cache of a tenant has.
use Rattle.std.proofs.Common.{◌≡◌, ◌≢◌, ℕ, ◌+◌, ◌<◌, ◌≤◌, cond, List, [], ◌∷◌, map, None, IsSome, refl, sym, ap, ◌∙◌, subst, ⊎_elim, arith}
use Rattle.std.specs.Prelude.{Option, is_some}
use Rattle.std.proofs.lemmas.Bool.{cases_eq, cases_lt, false≢true, eq-eqb, ne_eqb}
use Rattle.model_core.specs.Machine.{least_missing}
use Rattle.model_core.specs.WellFormed.{RisesFrom}
use Rattle.machine_changes.proofs.Lookups.{some_none, at, at_here, at_past}

module _ {X : Type 0} (key : X → ℕ) where
  none_below : (n k : ℕ) (xs : List X) → RisesFrom k (map key xs) → n < k → at key n xs ≡ None
  none_below n k [] rises less = refl
  none_below n k (x ∷ xs) (low, rises) less =
      at_past key n x xs (λ e. absurd (omega arith)) ∙ none_below n (key x + 1) xs rises (omega arith)

  not_some : (o : Option X) → o ≡ None → IsSome o → ⊥
  not_some o e some = false≢true (sym (ap is_some e) ∙ some)

  -- if all numbers from n to c - 1 are keys of the list, the least missing key from n on is at least c
  pub least_above : (n c : ℕ) (xs : List X) → RisesFrom n (map key xs) → ((d : ℕ) → n ≤ d → d < c → IsSome (at key d xs))
      → c ≤ least_missing n (map key xs)
  least_above n c [] rises full = ⊎_elim (λ less. absurd (not_some None refl (full n (omega arith) less))) (λ high. high) (cases_lt n c)
  least_above n c (x ∷ xs) (low, rises) full = ⊎_elim (here (least_above (n + 1) c xs)) past (cases_eq (key x) n)
    where
      here : (RisesFrom (n + 1) (map key xs) → ((d : ℕ) → n + 1 ≤ d → d < c → IsSome (at key d xs)) → c ≤ least_missing (n + 1) (map key xs))
          → key x ≡ n → c ≤ least_missing n (map key (x ∷ xs))
      here more e = subst (λ v. c ≤ cond v (least_missing (n + 1) (map key xs)) n) (sym (eq-eqb (key x) n e))
          (more (subst (λ k. RisesFrom (k + 1) (map key xs)) e rises)
          (λ d high less. subst (λ o. IsSome o) (at_past key d x xs (λ same. absurd (omega arith))) (full d (omega arith) less)))

      past : (key x ≡ n → ⊥) → c ≤ least_missing n (map key (x ∷ xs))
      past differ = subst (λ v. c ≤ cond v (least_missing (n + 1) (map key xs)) n) (sym (ne_eqb (key x) n differ))
          (⊎_elim (λ less. absurd (not_some (at key n (x ∷ xs))
          (at_past key n x xs differ ∙ none_below n (key x + 1) xs rises (omega arith)) (full n (omega arith) less))) (λ high. high) (cases_lt n c))

  -- if all numbers from n to c - 1 are keys of the list and c is not, c is the least missing key from n on
  pub least_is : (n c : ℕ) (xs : List X) → RisesFrom n (map key xs) → n ≤ c → at key c xs ≡ None
      → ((d : ℕ) → n ≤ d → d < c → IsSome (at key d xs)) → least_missing n (map key xs) ≡ c
  least_is n c [] rises low absent full =
      ⊎_elim (λ less. absurd (not_some None refl (full n (omega arith) less))) (λ high. omega arith) (cases_lt n c)
  least_is n c (x ∷ xs) (above, rises) low absent full = ⊎_elim (here (least_is (n + 1) c xs)) past (cases_eq (key x) n)
    where
      here : (RisesFrom (n + 1) (map key xs) → n + 1 ≤ c → at key c xs ≡ None → ((d : ℕ) → n + 1 ≤ d → d < c → IsSome (at key d xs))
          → least_missing (n + 1) (map key xs) ≡ c) → key x ≡ n → least_missing n (map key (x ∷ xs)) ≡ c
      here more e =
          let differ : key x ≢ c = λ same. some_none (sym (at_here key c x xs same) ∙ absent) in
          ap (λ v. cond v (least_missing (n + 1) (map key xs)) n) (eq-eqb (key x) n e)
          ∙ more (subst (λ k. RisesFrom (k + 1) (map key xs)) e rises) (omega arith) (sym (at_past key c x xs differ) ∙ absent)
          (λ d high less. subst (λ o. IsSome o) (at_past key d x xs (λ same. absurd (omega arith))) (full d (omega arith) less))

      past : (key x ≡ n → ⊥) → least_missing n (map key (x ∷ xs)) ≡ c
      past differ =
          ap (λ v. cond v (least_missing (n + 1) (map key xs)) n) (ne_eqb (key x) n differ)
          ∙ ⊎_elim (λ less. absurd (not_some (at key n (x ∷ xs))
          (at_past key n x xs differ ∙ none_below n (key x + 1) xs rises (omega arith)) (full n (omega arith) less))) (λ high. omega arith) (cases_lt n c)
