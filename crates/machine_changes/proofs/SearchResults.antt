-- What a search in a list finds.
use Rattle.std.proofs.Common.{◌≡◌, ◌≢◌, ℕ, ◌+◌, ◌≤◌, Bool, true, false, cond, List, [], ◌∷◌, map, Some, None, refl, sym, ap, ◌∙◌, inl, inr, arith}
use Rattle.std.specs.Prelude.{find}
use Rattle.std.proofs.lemmas.Bool.{false≢true}
use Rattle.model_core.specs.WellFormed.{RisesFrom}
use Rattle.model_core.specs.Elements.{IsIn}
use Rattle.model_core.proofs.Lists.{key_above, any_unfound, any_in}

-- if some element passes the test, the search finds an element
pub some_found : {X : Type 0} (p : X → Bool) (x : X) (xs : List X) → IsIn x xs → p x ≡ true → find p xs ≢ None
some_found p x xs i e none = false≢true (sym (any_unfound p xs none) ∙ any_in p x xs i e)

-- if no element passes the test, the search finds nothing
pub find_none : {X : Type 0} (p : X → Bool) (xs : List X) → ((x : X) → IsIn x xs → p x ≡ false) → find p xs ≡ None
find_none p [] none = refl
find_none p (x ∷ xs) none = ap (λ v. cond v (Some x) (find p xs)) (none x (inl refl)) ∙ find_none p xs (λ y i. none y (inr i))

-- in a list with rising keys, the search finds the element with the least key among those that pass the test
pub find_least : {X : Type 0} (key : X → ℕ) (p : X → Bool) (n : ℕ) (y : X) (xs : List X) → RisesFrom n (map key xs) → IsIn y xs → p y ≡ true
    → ((x : X) → IsIn x xs → p x ≡ true → key y ≤ key x) → find p xs ≡ Some y
find_least key p n y [] rises i e least = elim i [ ]
find_least {X} key p n y (x ∷ xs) (low, rises) i e least =
    go (p x) refl i (λ j. find_least key p (key x + 1) y xs rises j e (λ z l. least z (inr l)))
  where
    go : (v : Bool) → p x ≡ v → IsIn y (x ∷ xs) → (IsIn y xs → find p xs ≡ Some y) → cond v (Some x) (find p xs) ≡ Some y
    go true is (inl same) more = ap (λ z. Some z) same
    go true is (inr j) more =
        let above : key x + 1 ≤ key y = key_above key (key x + 1) y xs rises j in
        let below : key y ≤ key x = least x (inl refl) is in
        absurd (omega arith)
    go false is (inl same) more = absurd (false≢true (sym is ∙ ap p same ∙ e))
    go false is (inr j) more = more j
