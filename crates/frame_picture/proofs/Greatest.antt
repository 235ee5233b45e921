-- The greatest of a growing set of numbers.
use Rattle.std.proofs.Common.{◌≡◌, ℕ, ◌+◌, ◌<◌, ◌≤◌, max, ap, refl, subst, sym, ◌∙◌, ◌⊎◌, inl, inr, arith}
use Rattle.std.proofs.lemmas.Bool.{cases_order}
use Rattle.frame_picture.specs.Bounds.{IsGreatest}

-- the greatest of no numbers is `lowest`
pub greatest_none : (P : ℕ → Type 0) (lowest : ℕ) → ((n : ℕ) → P n → ⊥) → IsGreatest P lowest lowest
greatest_none P lowest none = record { above = omega arith; all = λ n p. absurd (none n p); some = inl refl }

-- the greatest of one number is this number
pub greatest_one : (v : ℕ) → IsGreatest (λ n. n ≡ v) 0 v
greatest_one v = record { above = omega arith; all = λ n e. omega arith; some = inr refl }

-- the greatest number of two sets together is the greater one of their greatest numbers
pub greatest_both : (P Q R : ℕ → Type 0) (lowest a b : ℕ) → IsGreatest P lowest a → IsGreatest Q 0 b
    → ((n : ℕ) → P n → R n) → ((n : ℕ) → Q n → R n) → ((n : ℕ) → R n → P n ⊎ Q n) → IsGreatest R lowest (max b a)
greatest_both P Q R lowest a b first second left right split = record {
  above = omega (arith, first.above);
  all = λ n r. each n (split n r);
  some = reached (cases_order b a);
}
  where
    each : (n : ℕ) → P n ⊎ Q n → n ≤ max b a
    each n (inl p) = let le : n ≤ a = first.all n p in omega arith
    each n (inr q) = let le : n ≤ b = second.all n q in omega arith

    from_first : max b a ≡ a → (a ≡ lowest) ⊎ P a → (max b a ≡ lowest) ⊎ R (max b a)
    from_first e (inl low) = inl (e ∙ low)
    from_first e (inr p) = inr (subst R (sym e) (left a p))

    from_second : a < b → max b a ≡ b → (b ≡ 0) ⊎ Q b → (max b a ≡ lowest) ⊎ R (max b a)
    from_second less e (inl none) = absurd (omega arith)
    from_second less e (inr q) = inr (subst R (sym e) (right b q))

    reached : (b ≡ a) ⊎ ((b < a) ⊎ (a < b)) → (max b a ≡ lowest) ⊎ R (max b a)
    reached (inl e) = from_first (omega arith) first.some
    reached (inr (inl below)) = from_first (omega arith) first.some
    reached (inr (inr above)) = from_second above (omega arith) second.some

-- n is one of the first `count` values
abbrev pub IsValue : (ℕ → ℕ) → ℕ → ℕ → Type 0
IsValue value count n = (at : ℕ) × (at < count) × (value at ≡ n)

pub values_none : (value : ℕ → ℕ) (lowest : ℕ) → IsGreatest (IsValue value 0) lowest lowest
values_none value lowest = greatest_none (IsValue value 0) lowest (λ n is. let less : is.0 < 0 = is.1 in omega arith)

-- if v is the next value, the greatest of count + 1 values is the greater one of v and the greatest of the first `count` values
pub values_more : (value : ℕ → ℕ) (count lowest most v : ℕ) → v ≡ value count → IsGreatest (IsValue value count) lowest most
    → IsGreatest (IsValue value (count + 1)) lowest (max v most)
values_more value count lowest most v next before =
    greatest_both (IsValue value count) (λ n. n ≡ v) (IsValue value (count + 1)) lowest most v before (greatest_one v)
    (λ n is. (is.0, (let less : is.0 < count = is.1 in omega arith), is.2))
    (λ n e. (count, omega arith, sym (e ∙ next)))
    (λ n is. split n is.0 is.1 is.2 (cases_order is.0 count))
  where
    split : (n at : ℕ) → at < count + 1 → value at ≡ n → (at ≡ count) ⊎ ((at < count) ⊎ (count < at)) → IsValue value count n ⊎ (n ≡ v)
    split n at less is (inl e) = inr (sym is ∙ ap value e ∙ sym next)
    split n at less is (inr (inl below)) = inl (at, below, is)
    split n at less is (inr (inr above)) = absurd (omega arith)
