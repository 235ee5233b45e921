-- Sets of numbers with one bit for each number.
use Rattle.std.proofs.Common.{◌≡◌, ◌≢◌, ℕ, suc, ◌*◌, ◌/◌, ◌%◌, ◌^◌, ◌<◌, ◌≤◌, ◌⊎◌, ⊎_elim, false, List, replicate, length, get_or, set, eqb, ◌||◌, sym, ap, ◌∙◌, inl, inr, w64, arith}
use Rattle.std.specs.Int.{bit_at, div_ceil}
use Rattle.std.proofs.Math.Nat.{mul-le-mul_left, mul-le-mul_right}
use Rattle.std.proofs.lemmas.Grind.{div_ceil_times}
use Rattle.std.specs.Int.RustNames.{bit_or}
use Rattle.std.proofs.lemmas.Bool.{cases_eq, cases_lt, eq-eqb, ne_eqb}
use Rattle.std.proofs.lemmas.List.{get_or-set_same, get_or-set_other, get_or-replicate, get_or_past, length-replicate}
use Rattle.std.proofs.lemmas.Nat.Bits.{bit_at_set_same, bit_at_set_other, bit_at-zero}
use Rattle.slab_core.specs.Fitting.{has_number}

-- the words after bit i is set
abbrev pub with_bit : List ℕ → ℕ → List ℕ
with_bit words i = set words (i / 64) (bit_or (get_or words (i / 64) 0) (1 * 2 ^ (i % 64) % 2 ^ 64))

module _ (words : List ℕ) (i : ℕ) (less : i / 64 < length words) where
  here : (n : ℕ) → n / 64 ≡ i / 64 → get_or (with_bit words i) (n / 64) 0 ≡ bit_or (get_or words (i / 64) 0) (1 * 2 ^ (i % 64) % 2 ^ 64)
  here n same = ap (λ j. get_or (with_bit words i) j 0) same ∙ get_or-set_same words (i / 64) _ 0 less

  pub one_more : (n : ℕ) → has_number (with_bit words i) n ≡ (eqb n i || has_number words n)
  one_more n = elim (cases_eq n i) [
    | inl same ↦
        let word : n / 64 ≡ i / 64 = ap (λ j. j / 64) same in
        let bit : bit_at (get_or (with_bit words i) (n / 64) 0) (n % 64) ≡ 1 =
        ap (λ w. bit_at w (n % 64)) (here n word) ∙ ap (λ j. bit_at (bit_or (get_or words (i / 64) 0) (1 * 2 ^ (i % 64) % 2 ^ 64)) (j % 64)) same
        ∙ bit_at_set_same w64 (get_or words (i / 64) 0) (i % 64) (omega arith) in
        eq-eqb _ 1 bit ∙ ap (λ v. v || has_number words n) (sym (eq-eqb n i same))
    | inr other ↦
        ap (λ b. eqb b 1) (elsewhere other (cases_eq (n / 64) (i / 64))) ∙ ap (λ v. v || has_number words n) (sym (ne_eqb n i other))
  ]
    where
      elsewhere : n ≢ i → (n / 64 ≡ i / 64) ⊎ (n / 64 ≢ i / 64) → bit_at (get_or (with_bit words i) (n / 64) 0) (n % 64) ≡ bit_at (get_or words (n / 64) 0) (n % 64)
      elsewhere other (inl word) =
          ap (λ w. bit_at w (n % 64)) (here n word)
          ∙ bit_at_set_other w64 (get_or words (i / 64) 0) (i % 64) (omega arith) (n % 64) (λ e. other (omega arith))
          ∙ ap (λ j. bit_at (get_or words j 0) (n % 64)) (sym word)
      elsewhere other (inr word) = ap (λ w. bit_at w (n % 64)) (get_or-set_other words (i / 64) (n / 64) _ 0 word)

pub none_yet : (count n : ℕ) → has_number (replicate count 0) n ≡ false
none_yet count n = ap (λ w. eqb (bit_at w (n % 64)) 1) word ∙ ap (λ b. eqb b 1) (bit_at-zero (n % 64))
  where
    word : let none : ℕ = 0 in get_or (replicate count none) (n / 64) 0 ≡ none
    word = elim (cases_lt (n / 64) count) [
      | inl less ↦ get_or-replicate count (n / 64) 0 0 less
      | inr past ↦ get_or_past (replicate count 0) (n / 64) 0 (omega (arith, length-replicate {A = ℕ} count 0))
    ]

-- count / size, rounded up, is at most count; so a set of blocks of `size` frames needs at most as many words as a set of frames
pub few_words : (count size : ℕ) → 0 < size → div_ceil count size ≤ count
few_words count size some = ⊎_elim
    (λ over.
    let most = (div_ceil_times count size some).1 in
    let rows : suc count * size ≤ div_ceil count size * size = mul-le-mul_right size over in
    let own : count * 1 ≤ count * size = mul-le-mul_left count some in
    absurd (grind (arith, most, rows, own)))
    (λ le. le)
    (cases_lt count (div_ceil count size))
