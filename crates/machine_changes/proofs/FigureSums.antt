-- The sum over a table equals the sum over a list, if each element of the list is in the table at its key, and nothing else is.
use Rattle.std.proofs.Common.{◌≡◌, ◌≢◌, ℕ, suc, ◌+◌, ◌≤◌, List, [], ◌∷◌, ◌++◌, map, length, get_or, set, refl, sym, ap, ◌∙◌, subst, inl, inr, ⊎_elim, arith}
use Rattle.std.specs.Prelude.{⊤}
use Rattle.std.specs.List.{sum_by}
use Rattle.std.proofs.lemmas.Bool.{cases_lt, cases_eq}
use Rattle.std.proofs.lemmas.List.{get_or_past, get_or-set_same, get_or-set_other, set_past}
use Rattle.std.proofs.lemmas.List.Sums.{sum_by-cons, sum_by-set}
use Rattle.model_core.specs.WellFormed.{RisesFrom}
use Rattle.model_core.specs.Elements.{IsIn}
use Rattle.model_core.proofs.Lists.{in_append, map_in, key_above}

-- Lists in which no two elements have the same key

module _ {X : Type 0} (key : X → ℕ) where
  abbrev pub AreKeyed : List X → Type 0
  AreKeyed [] = ⊤
  AreKeyed (x ∷ xs) = ((y : X) → IsIn y xs → key y ≢ key x) × AreKeyed xs

  pub rising_keyed : (n : ℕ) (xs : List X) → RisesFrom n (map key xs) → AreKeyed xs
  rising_keyed n [] rises = tt
  rising_keyed n (x ∷ xs) (low, rises) =
      (λ y i same. let above : key x + 1 ≤ key y = key_above key (key x + 1) y xs rises i in absurd (omega arith), rising_keyed (key x + 1) xs rises)

  pub append_keyed : (xs ys : List X) → AreKeyed xs → AreKeyed ys → ((x y : X) → IsIn x xs → IsIn y ys → key y ≢ key x) → AreKeyed (xs ++ ys)
  append_keyed [] ys k l apart = l
  append_keyed (x ∷ xs) ys (one, k) l apart =
      (λ y i. ⊎_elim (one y) (apart x y (inl refl)) (in_append y xs ys i), append_keyed xs ys k l (λ z y i. apart z y (inr i)))

pub mapped_keyed : {X Y : Type 0} (g : X → Y) (key : Y → ℕ) (xs : List X) → AreKeyed (λ x. key (g x)) xs → AreKeyed key (map g xs)
mapped_keyed g key [] k = tt
mapped_keyed g key (x ∷ xs) (one, k) =
    (λ y i same. let there = map_in g y xs i in one there.0 there.1 (ap key there.2 ∙ same), mapped_keyed g key xs k)

-- Sums over tables

module _ {Y : Type 0} (none : Y) (weight : Y → ℕ) (light : weight none ≡ 0) where
  sum_none : (table : List Y) → ((f : ℕ) → weight (get_or table f none) ≡ 0) → sum_by weight table ≡ 0
  sum_none [] all = refl
  sum_none (y ∷ table) all =
      let here : weight y ≡ 0 = all 0 in
      let rest : sum_by weight table ≡ 0 = sum_none table (λ f. all (suc f)) in
      omega (arith, sum_by-cons weight y table)

  -- removing an entry reduces the sum by its weight
  sum_less : (table : List Y) (f : ℕ) → sum_by weight (set table f none) + weight (get_or table f none) ≡ sum_by weight table
  sum_less table f = ⊎_elim
      (λ less. let parts = sum_by-set weight table f none none less in omega arith)
      (λ past.
      let out : weight (get_or table f none) ≡ 0 = ap weight (get_or_past table f none past) ∙ light in
      let same : sum_by weight (set table f none) ≡ sum_by weight table = ap (sum_by weight) (set_past table f none past) in
      omega arith)
      (cases_lt f (length table))

  less_there : (table : List Y) (f : ℕ) → weight (get_or (set table f none) f none) ≡ 0
  less_there table f = ⊎_elim
      (λ less. ap weight (get_or-set_same table f none none less) ∙ light)
      (λ past. ap (λ l. weight (get_or l f none)) (set_past table f none past) ∙ ap weight (get_or_past table f none past) ∙ light)
      (cases_lt f (length table))

  module _ {X : Type 0} (key value : X → ℕ) where
    -- the weight of the entry at each element's key is the element's value, and all other entries have weight 0
    pub record IsTabled (xs : List X) (table : List Y) : Type 0 where
      pub there : (x : X) → IsIn x xs → weight (get_or table (key x) none) ≡ value x
      pub others : (f : ℕ) → ((x : X) → IsIn x xs → key x ≢ f) → weight (get_or table f none) ≡ 0

    less_tabled : (x : X) (xs : List X) (table : List Y) → ((y : X) → IsIn y xs → key y ≢ key x) → IsTabled (x ∷ xs) table
        → IsTabled xs (set table (key x) none)
    less_tabled x xs table one h = record {
      there = λ y i. ap weight (get_or-set_other table (key x) (key y) none none (one y i)) ∙ h.there y (inr i);
      others = λ f off. ⊎_elim
          (λ (same : f ≡ key x). subst (λ g. weight (get_or (set table (key x) none) g none) ≡ 0) (sym same) (less_there table (key x)))
          (λ differ. ap weight (get_or-set_other table (key x) f none none differ) ∙ h.others f (nowhere f differ off))
          (cases_eq f (key x));
    }
      where
        nowhere : (f : ℕ) → f ≢ key x → ((y : X) → IsIn y xs → key y ≢ f) → (y : X) → IsIn y (x ∷ xs) → key y ≢ f
        nowhere f differ off y (inl same) e = differ (sym (ap key same ∙ e))
        nowhere f differ off y (inr i) e = off y i e

    pub sum_tabled : (xs : List X) (table : List Y) → AreKeyed key xs → IsTabled xs table → sum_by weight table ≡ sum_by value xs
    sum_tabled [] table k h = sum_none table (λ f. h.others f (λ x i. elim i [ ]))
    sum_tabled (x ∷ xs) table (one, k) h =
        let rest : sum_by weight (set table (key x) none) ≡ sum_by value xs = sum_tabled xs (set table (key x) none) k (less_tabled x xs table one h) in
        let this : weight (get_or table (key x) none) ≡ value x = h.there x (inl refl) in
        omega (arith, sum_less table (key x), sum_by-cons value x xs)
