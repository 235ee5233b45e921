-- Tests and counts over lists, one item at a time.
use Rattle.std.proofs.Common.{◌≡◌, ℕ, suc, ◌+◌, ◌-◌, ◌<◌, ◌≤◌, Bool, true, false, not, ◌&&◌, List, [], ◌∷◌, length, filter, take, length-take, get_or, cond, ◌==◌, Option, Some, None, refl, ap, ◌∙◌, sym, arith}
use Rattle.std.specs.List.{list_all, range_with_len}
use Rattle.std.specs.Int.{from_bool}
use Rattle.std.specs.Option.{option_eq}
use Rattle.std.proofs.lemmas.List.Filters.{length-filter_both, length-filter_more}
use Rattle.std.proofs.lemmas.Bool.{eqb-true}
use Rattle.model_core.specs.Reports.{split_share}

-- a test passes for all numbers from k to n - 1 exactly if it passes for k and for all numbers from k + 1 to n - 1
pub all_from : (p : ℕ → Bool) (k n : ℕ) → k < n
    → list_all p (range_with_len k (n - k)) ≡ (p k && list_all p (range_with_len (k + 1) (n - (k + 1))))
all_from p k n lt = let e : n - k ≡ suc (n - (k + 1)) = omega arith in ap (λ m. list_all p (range_with_len k m)) e

-- eleven tests in groups give the same result as the eleven tests one by one
pub grouped : (a b c d e f g h i j k : Bool) → list_all (λ x. x) ((a && b) ∷ ((c && d) && (e && f)) ∷ (g && h) ∷ i ∷ j ∷ k ∷ [])
    ≡ list_all (λ x. x) (a ∷ b ∷ c ∷ d ∷ e ∷ f ∷ g ∷ h ∷ i ∷ j ∷ k ∷ [])
grouped false b c d e f g h i j k = refl
grouped true false c d e f g h i j k = refl
grouped true true false d e f g h i j k = refl
grouped true true true false e f g h i j k = refl
grouped true true true true false f g h i j k = refl
grouped true true true true true false g h i j k = refl
grouped true true true true true true false h i j k = refl
grouped true true true true true true true h i j k = refl

-- if two orders are equal, the reported share can be tested with either of them
pub same_share : (a b : Option ℕ) (free split : ℕ) → (option_eq (λ i j. i == j) a b && split == split_share free b)
    ≡ (option_eq (λ i j. i == j) a b && split == split_share free a)
same_share None None free split = refl
same_share None (Some j) free split = refl
same_share (Some i) None free split = refl
same_share (Some i) (Some j) free split = go (i == j) refl
  where
    go : (t : Bool) → (i == j) ≡ t → (t && split == split_share free (Some j)) ≡ (t && split == split_share free (Some i))
    go true e = ap (λ k. split == split_share free (Some k)) (sym (eqb-true i j e))
    go false e = refl

-- Let n of the first i items pass, and let `more` be 1 if item i passes and 0 if it fails. Then n + more of the first i + 1 items
-- pass.
pub one_more : (p : ℕ → Bool) (xs : List ℕ) (i n more : ℕ) (b : Bool) → i < length xs → n ≡ length (filter p (take i xs)) → b ≡ p (get_or xs i 0)
    → more ≡ from_bool b → n + more ≡ length (filter p (take (i + 1) xs))
one_more p xs i n more b there is test bit =
    ap (λ (m : ℕ). n + m) (bit ∙ number b) ∙ ap (λ (m : ℕ). m + cond b 1 0) is
    ∙ ap (λ (t : Bool). length (filter p (take i xs)) + cond t 1 0) test ∙ sym (length-filter_more p xs i 0 there)
  where
    number : (t : Bool) → from_bool t ≡ cond t 1 0
    number true = refl
    number false = refl

-- if n of the first i items pass, n plus 0 or 1 is at most i + 1
pub count_within : (p : ℕ → Bool) (xs : List ℕ) (i n more : ℕ) (b : Bool) → n ≡ length (filter p (take i xs)) → more ≡ from_bool b → n + more ≤ i + 1
count_within p xs i n more b is bit =
    let both = length-filter_both p (λ x. not (p x)) (λ x. refl) (take i xs) in
    omega (arith, is, bit, both, length-take i xs, bound b)
  where
    bound : (t : Bool) → from_bool t ≤ 1
    bound true = omega arith
    bound false = omega arith
