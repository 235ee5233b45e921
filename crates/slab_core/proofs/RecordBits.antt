-- Flipping bits of control records, and changing and counting the flags of objects.
use Rattle.std.proofs.Common.{◌≡◌, ◌≢◌, ℕ, ◌+◌, ◌%◌, ◌^◌, ◌<◌, ◌≤◌, Bool, true, false, not, cond, eqb, zero, suc, List, [], ◌∷◌, length, get_or, set, refl, sym, ap, ◌∙◌, inl, inr, arith}
use Rattle.std.specs.Int.{bit_at}
use Rattle.std.specs.Int.Bits.{bit_xor}
use Rattle.std.proofs.lemmas.Bool.{cases_lt, eq-eqb, ne_eqb}
use Rattle.std.proofs.lemmas.Nat.Bits.{bit_at_xor, bit_at-pow_same, bit_at-pow_other, bit_at-lt}
use Rattle.machine_changes.specs.Records.{is_set, flags_from, count_true}

turned : (a b c : ℕ) → a < 2 → b ≡ 1 → c ≡ (a + b) % 2 → eqb c 1 ≡ not (eqb a 1)
turned a b c few one e = elim (cases_lt a 1) [
  | inl lt ↦ eq-eqb c 1 (omega arith) ∙ sym (ap not (ne_eqb a 1 (λ same. omega arith)))
  | inr ge ↦ ne_eqb c 1 (λ same. omega arith) ∙ sym (ap not (eq-eqb a 1 (omega arith)))
]

-- flipping a bit changes that bit and no other bit of the word
pub bit_turned : (word i : ℕ) → is_set (bit_xor word (2 ^ i)) i ≡ not (is_set word i)
bit_turned word i = turned (bit_at word i) (bit_at (2 ^ i) i) (bit_at (bit_xor word (2 ^ i)) i) (bit_at-lt word i) (bit_at-pow_same i) (bit_at_xor word (2 ^ i) i)

pub bit_stays : (word i j : ℕ) → j ≢ i → is_set (bit_xor word (2 ^ i)) j ≡ is_set word j
bit_stays word i j other =
    let few = bit_at-lt word j in
    let none = bit_at-pow_other i j other in
    let e = bit_at_xor word (2 ^ i) j in
    let same : bit_at (bit_xor word (2 ^ i)) j ≡ bit_at word j = omega arith in
    ap (λ x. eqb x 1) same

-- if tests p and q have the same results for the n numbers from k on, their flags are equal
same_flags : (k n : ℕ) (p q : ℕ → Bool) → ((i : ℕ) → k ≤ i → i < k + n → q i ≡ p i) → flags_from k n q ≡ flags_from k n p
same_flags k zero p q same = refl
same_flags k (suc n) p q same =
    ap (λ b. b ∷ flags_from (suc k) n q) (same k (omega arith) (omega arith))
    ∙ ap (λ bs. p k ∷ bs) (same_flags (suc k) n p q (λ i low high. same i (omega arith) (omega arith)))

-- if tests p and q differ only for number k + i, their flags differ only at index i
pub flags_changed : (k n i : ℕ) (p q : ℕ → Bool) (v : Bool) → i < n → q (k + i) ≡ v → ((j : ℕ) → k ≤ j → j < k + n → j ≢ k + i → q j ≡ p j)
    → flags_from k n q ≡ set (flags_from k n p) i v
flags_changed k zero i p q v less here other = absurd (omega arith)
flags_changed k (suc n) zero p q v less here other =
    ap (λ b. b ∷ flags_from (suc k) n q) (ap q (omega arith) ∙ here)
    ∙ ap (λ bs. v ∷ bs) (same_flags (suc k) n p q (λ j low high. other j (omega arith) (omega arith) (λ same. omega arith)))
flags_changed k (suc n) (suc i) p q v less here other =
    ap (λ b. b ∷ flags_from (suc k) n q) (other k (omega arith) (omega arith) (λ same. omega arith))
    ∙ ap (λ bs. p k ∷ bs) (flags_changed (suc k) n i p q v (omega arith) (ap q (omega arith) ∙ here) (λ j low high ne. other j (omega arith) (omega arith) (λ same. ne (omega arith))))

-- clearing a set flag lowers the number of set flags by 1, and setting a clear flag raises it by 1
pub count_cleared : (xs : List Bool) (i : ℕ) → i < length xs → get_or xs i false ≡ true → count_true (set xs i false) + 1 ≡ count_true xs
count_cleared [] i less up = absurd (omega arith)
count_cleared (x ∷ xs) zero less up = let one : count_true (x ∷ xs) ≡ 1 + count_true xs = ap (λ b. cond b 1 0 + count_true xs) up in omega arith
count_cleared (x ∷ xs) (suc i) less up = omega (arith, count_cleared xs i (omega arith) up)

pub count_set : (xs : List Bool) (i : ℕ) → i < length xs → get_or xs i false ≡ false → count_true (set xs i true) ≡ count_true xs + 1
count_set [] i less down = absurd (omega arith)
count_set (x ∷ xs) zero less down = let none : count_true (x ∷ xs) ≡ 0 + count_true xs = ap (λ b. cond b 1 0 + count_true xs) down in omega arith
count_set (x ∷ xs) (suc i) less down = omega (arith, count_set xs i (omega arith) down)
