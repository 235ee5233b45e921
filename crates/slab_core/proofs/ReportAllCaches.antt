-- The rows of a report are the rows of all caches, added one by one in ascending order of the caches' numbers.
use Rattle.std.proofs.Common.{◌≡◌, ℕ, ◌+◌, ◌<◌, ◌≤◌, cond, ltb, List, [], ◌∷◌, ◌++◌, map, Some, None, refl, sym, ap, ◌∙◌, inl, inr, arith}
use Rattle.std.specs.Prelude.{filter, Option, option_map}
use Rattle.std.proofs.lemmas.Bool.{cases_eq, cases_lt, lt-ltb, le-ltb}
use Rattle.model_core.specs.WellFormed.{RisesFrom}
use Rattle.model_core.specs.Machine.{Cache, Machine}
use Rattle.model_core.specs.Elements.{IsIn}
use Rattle.space_core.specs.Content as spaces
use Rattle.buddy_core.specs.Content as buddies
use Rattle.slab_tables.specs.Content.{Content, cache_at}
use Rattle.machine_changes.specs.Shows.{ShowsMachine}
use Rattle.machine_changes.proofs.Lookups.{some_none, some_same, at, at_here, at_past}
use Rattle.slab_core.proofs.EmptySlabFrames.{numbers_below}
use Rattle.model_core.specs.declared.report.CacheRow.{CacheRow}
use Rattle.model_core.specs.Reports.{row_of_cache}

abbrev pub listed : {X : Type 0} → Option X → List X
listed None = []
listed (Some x) = x ∷ []

module _ {X : Type 0} (key : X → ℕ) where
  -- the elements of the list with keys below n
  abbrev pub below : ℕ → List X → List X
  below n xs = filter (λ x. ltb (key x) n) xs

  pub none_below : (n k : ℕ) (xs : List X) → RisesFrom k (map key xs) → n ≤ k → below n xs ≡ []
  none_below n k [] rises le = refl
  none_below n k (x ∷ xs) (low, rises) le =
      ap (λ b. cond b (x ∷ below n xs) (below n xs)) (le-ltb (key x) n (omega arith)) ∙ none_below n (key x + 1) xs rises (omega arith)

  -- the elements with keys below n + 1 are the elements with keys below n, followed by the element with key n, if there is one
  pub below_more : (n k : ℕ) (xs : List X) → RisesFrom k (map key xs) → below (n + 1) xs ≡ below n xs ++ listed (at key n xs)
  below_more n k [] rises = refl
  below_more n k (x ∷ xs) (low, rises) = elim (cases_lt (key x) n) [
    | inl less ↦
        ap (λ b. cond b (x ∷ below (n + 1) xs) (below (n + 1) xs)) (lt-ltb (key x) (n + 1) (omega arith))
        ∙ (ap (λ ys. x ∷ ys) (below_more n (key x + 1) xs rises)
        ∙ (ap (λ o. x ∷ (below n xs ++ listed o)) (sym (at_past key n x xs (λ e. omega arith)))
        ∙ ap (λ b. cond b (x ∷ below n xs) (below n xs) ++ listed (at key n (x ∷ xs))) (sym (lt-ltb (key x) n less))))
    | inr more ↦ elim (cases_eq (key x) n) [
      | inl same ↦
          ap (λ b. cond b (x ∷ below (n + 1) xs) (below (n + 1) xs)) (lt-ltb (key x) (n + 1) (omega arith))
          ∙ (ap (λ ys. x ∷ ys) (none_below (n + 1) (key x + 1) xs rises (omega arith))
          ∙ (ap (λ (o : Option X). listed o) (sym (at_here key n x xs same))
          ∙ (ap (λ ys. ys ++ listed (at key n (x ∷ xs))) (sym (none_below n (key x + 1) xs rises (omega arith)))
          ∙ ap (λ b. cond b (x ∷ below n xs) (below n xs) ++ listed (at key n (x ∷ xs))) (sym (le-ltb (key x) n more)))))
      | inr differ ↦
          ap (λ b. cond b (x ∷ below (n + 1) xs) (below (n + 1) xs)) (le-ltb (key x) (n + 1) (omega arith))
          ∙ (below_more n (key x + 1) xs rises
          ∙ (ap (λ o. below n xs ++ listed o) (sym (at_past key n x xs differ))
          ∙ ap (λ b. cond b (x ∷ below n xs) (below n xs) ++ listed (at key n (x ∷ xs))) (sym (le-ltb (key x) n more))))
    ]
  ]

  pub all_below : (n : ℕ) (xs : List X) → ((x : X) → IsIn x xs → key x < n) → below n xs ≡ xs
  all_below n [] few = refl
  all_below n (x ∷ xs) few =
      ap (λ b. cond b (x ∷ below n xs) (below n xs)) (lt-ltb (key x) n (few x (inl refl))) ∙ ap (λ ys. x ∷ ys) (all_below n xs (λ y i. few y (inr i)))

map_more : (xs ys : List Cache) → map row_of_cache (xs ++ ys) ≡ map row_of_cache xs ++ map row_of_cache ys
map_more [] ys = refl
map_more (x ∷ xs) ys = ap (λ zs. row_of_cache x ∷ zs) (map_more xs ys)

no_more : {X : Type 0} (xs : List X) → xs ≡ xs ++ []
no_more [] = refl
no_more (x ∷ xs) = ap (λ ys. x ∷ ys) (no_more xs)

-- adding the row of a further cache to the rows of the caches xs gives the rows of xs and this cache
pub pushed : (rows : List CacheRow) (row : CacheRow) (xs : List Cache) (o : Option Cache) → Some row ≡ option_map row_of_cache o → rows ≡ map row_of_cache xs
    → rows ++ (row ∷ []) ≡ map row_of_cache (xs ++ listed o)
pushed rows row xs None e same = absurd (some_none e)
pushed rows row xs (Some x) e same = ap (λ z. z ++ (row ∷ [])) same ∙ (ap (λ z. map row_of_cache xs ++ (z ∷ [])) (some_same e) ∙ sym (map_more xs (x ∷ [])))

pub not_pushed : (rows : List CacheRow) (xs : List Cache) (o : Option Cache) → None ≡ option_map row_of_cache o → rows ≡ map row_of_cache xs → rows ≡ map row_of_cache (xs ++ listed o)
not_pushed rows xs None e same = same ∙ ap (map row_of_cache) (no_more xs)
not_pushed rows xs (Some x) e same = absurd (some_none (sym e))

-- if the tables have no cache of tenant t with number `end` or above, all caches of its machine have numbers below `end`
pub all_caches : (r : spaces.Content) (b : buddies.Content) (s : Content) (t end : ℕ) (m : Machine) → ((c : ℕ) → end ≤ c → cache_at s t c ≡ None)
    → ShowsMachine r b s t m → below (λ x. x.number) end m.caches ≡ m.caches
all_caches r b s t end m none h = all_below (λ x. x.number) end m.caches (numbers_below r b s t end m none h)
