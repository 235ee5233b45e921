-- The element at an index of a list in which one element was replaced, or whose elements are all equal.
use Rattle.std.proofs.Common.{◌≡◌, ℕ, zero, suc, ◌<◌, ◌≢◌, List, [], ◌∷◌, Some, length, slice_get, slice_set, replicate, refl, ap, sym, arith}

pub slice_get-set_same : {A : Type 0} (xs : List A) (i : ℕ) (x y : A) → slice_get xs i ≡ Some x → slice_get (slice_set xs i y) i ≡ Some y
slice_get-set_same [] i x y h = cc
slice_get-set_same (z ∷ zs) zero x y h = refl
slice_get-set_same (z ∷ zs) (suc i) x y h = slice_get-set_same zs i x y h

pub slice_get-set_other : {A : Type 0} (xs : List A) (i j : ℕ) (y : A) → i ≢ j → slice_get (slice_set xs i y) j ≡ slice_get xs j
slice_get-set_other [] i j y other = refl
slice_get-set_other (z ∷ zs) zero zero y other = absurd (other refl)
slice_get-set_other (z ∷ zs) zero (suc j) y other = refl
slice_get-set_other (z ∷ zs) (suc i) zero y other = refl
slice_get-set_other (z ∷ zs) (suc i) (suc j) y other = slice_get-set_other zs i j y (λ e. other (ap suc e))

-- two elements may be replaced in either order
pub slice_set-set_other : {A : Type 0} (xs : List A) (i j : ℕ) (x y : A) → i ≢ j → slice_set (slice_set xs i x) j y ≡ slice_set (slice_set xs j y) i x
slice_set-set_other [] i j x y other = refl
slice_set-set_other (z ∷ zs) zero zero x y other = absurd (other refl)
slice_set-set_other (z ∷ zs) zero (suc j) x y other = refl
slice_set-set_other (z ∷ zs) (suc i) zero x y other = refl
slice_set-set_other (z ∷ zs) (suc i) (suc j) x y other = ap (λ ys. z ∷ ys) (slice_set-set_other zs i j x y (λ e. other (ap suc e)))

pub slice_set-same : {A : Type 0} (xs : List A) (i : ℕ) (x : A) → slice_get xs i ≡ Some x → slice_set xs i x ≡ xs
slice_set-same [] i x h = refl
slice_set-same (z ∷ zs) zero x h = let same : z ≡ x = cc in ap (λ y. y ∷ zs) (sym same)
slice_set-same (z ∷ zs) (suc i) x h = ap (λ ys. z ∷ ys) (slice_set-same zs i x h)

pub slice_get-replicate : {A : Type 0} (n i : ℕ) (x : A) → i < n → slice_get (replicate n x) i ≡ Some x
slice_get-replicate zero i x h = absurd (omega arith)
slice_get-replicate (suc n) zero x h = refl
slice_get-replicate (suc n) (suc i) x h = slice_get-replicate n i x (omega arith)

-- if an index is below the length of a list, the list has an element at this index
pub get_within : {A : Type 0} (xs : List A) (i : ℕ) → i < length xs → (x : A) × (slice_get xs i ≡ Some x)
get_within [] i within = absurd (omega arith)
get_within (x ∷ xs) zero within = (x, refl)
get_within (x ∷ xs) (suc i) within = get_within xs i (omega arith)
