-- A list that is filled from its first element on.
use Rattle.std.proofs.Common.{◌≡◌, ◌≢◌, ℕ, ◌+◌, ◌<◌, ◌≤◌, List, Some, length, get_or, slice_get, slice_set, subst, sym, ◌∙◌, arith, ◌⊎◌, inl, inr, slice_index_or}
use Rattle.std.proofs.lemmas.Bool.{cases_order}
use Rattle.std.proofs.lemmas.Option.{slice_get_within, slice_get-get_or, get_or_from_slice_get}
use Rattle.std.proofs.lemmas.List.{get_or-set_same, get_or-set_other}

-- if P is true of all elements before index i, and of v, then P is true of all elements up to index i after v is set there
pub more_set : {X : Type 0} (d : X) (P : ℕ → X → Type 0) (xs : List X) (i : ℕ) (v : X) → i < length xs
    → ((k : ℕ) → k < i → P k (slice_index_or xs k d)) → P i v → (k : ℕ) → k < i + 1 → P k (slice_index_or (slice_set xs i v) k d)
more_set {X} d P xs i v within before here k less = go (cases_order k i)
  where
    go : (k ≡ i) ⊎ ((k < i) ⊎ (i < k)) → P k (slice_index_or (slice_set xs i v) k d)
    go (inl e) = subst (λ j. P j (slice_index_or (slice_set xs i v) j d)) (sym e) (subst (P i) (sym (get_or-set_same xs i v d within)) here)
    go (inr (inl below)) = let other : k ≢ i = omega arith in subst (P k) (sym (get_or-set_other xs i k v d other)) (before k below)
    go (inr (inr above)) = absurd (omega arith)

pub more_filled : {X : Type 0} (P : ℕ → X → Type 0) (xs : List X) (i : ℕ) (v : X) → i < length xs
    → ((k : ℕ) (x : X) → k < i → slice_get xs k ≡ Some x → P k x) → P i v
    → (k : ℕ) (x : X) → k < i + 1 → slice_get (slice_set xs i v) k ≡ Some x → P k x
more_filled P xs i v within before here k x less is =
    subst (P k) (get_or_from_slice_get (slice_set xs i v) k x x is)
    (more_set x P xs i v within (λ j below. before j (get_or xs j x) below (slice_get-get_or xs j x (omega arith))) here k less)

-- if at most one element is added behind the old ones, and P is true of it, each element is an old one or P is true of it
pub old_or_new : {X : Type 0} (P : X → Type 0) (old new : List X) (most : ℕ) → (length old < most → length new ≡ length old + 1)
    → (most ≤ length old → new ≡ old) → ((i : ℕ) → i < length old → slice_get new i ≡ slice_get old i)
    → ((x : X) → length old < most → slice_get new (length old) ≡ Some x → P x)
    → (i : ℕ) (x : X) → slice_get new i ≡ Some x → ((k : ℕ) × (slice_get old k ≡ Some x)) ⊎ P x
old_or_new {X} P old new most one none before last i x there = go (cases_order (length old) most)
  where
    kept : most ≤ length old → ((k : ℕ) × (slice_get old k ≡ Some x)) ⊎ P x
    kept full = inl (i, subst (λ xs. slice_get xs i ≡ Some x) (none full) there)

    among : length old < most → (i ≡ length old) ⊎ ((i < length old) ⊎ (length old < i)) → ((k : ℕ) × (slice_get old k ≡ Some x)) ⊎ P x
    among free (inl e) = inr (last x free (subst (λ j. slice_get new j ≡ Some x) e there))
    among free (inr (inl below)) = inl (i, sym (before i below) ∙ there)
    among free (inr (inr above)) = absurd (omega (arith, slice_get_within new i x there, one free))

    go : (length old ≡ most) ⊎ ((length old < most) ⊎ (most < length old)) → ((k : ℕ) × (slice_get old k ≡ Some x)) ⊎ P x
    go (inl e) = kept (omega arith)
    go (inr (inl free)) = among free (cases_order i (length old))
    go (inr (inr above)) = kept (omega arith)
