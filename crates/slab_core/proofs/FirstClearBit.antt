-- The first clear bit of a control record, and the first free object of a slab.
use Rattle.std.proofs.Common.{◌≡◌, ◌≢◌, ℕ, ◌+◌, ◌-◌, ◌*◌, ◌/◌, ◌%◌, ◌^◌, ◌<◌, ◌≤◌, Bool, true, false, not, zero, suc, List, ◌∷◌, length, get_or, take, drop, eqb, refl, sym, ap, subst, ◌∙◌, inl, inr, min, w32, arith}
use Rattle.std.specs.List.{position_or_len, slice_range}
use Rattle.std.specs.Int.{bit_at, trailing_ones, w64, to_le_bytes}
use Rattle.std.proofs.Math.Nat.{div-div-eq-div-mul}
use Rattle.std.proofs.lemmas.Bool.{cases_lt, eq-eqb, ne_eqb, eqb-true}
use Rattle.std.proofs.lemmas.List.{get_or-take, get_or-drop}
use Rattle.std.proofs.lemmas.Nat.{pow-add}
use Rattle.std.proofs.lemmas.Nat.Bits.{bit_at_above, bit_at_cat_low, bit_at_ones, bit_at-trailing_ones, same_from_bits_below}
use Rattle.machine_changes.specs.Records.{is_set, flags_from, flags}

-- all bits of the byte 255 are 1
pub full_byte : (byte j : ℕ) → byte ≡ 255 → j < 8 → is_set byte j ≡ true
full_byte byte j e less = ap (λ x. is_set x j) e ∙ eq-eqb (bit_at 255 j) 1 (bit_at_ones 8 j less)

-- k is the index of the first clear bit among the low `bits_of` bits of the word, or `bits_of` if all of them are 1
pub record IsClear (bits_of : ℕ) (word k : ℕ) : Type 0 where
  pub below : k ≤ bits_of
  pub ones : (j : ℕ) → j < k → is_set word j ≡ true
  pub clear : k < bits_of → is_set word k ≡ false

pub clear_word : (word : ℕ) → word < 2 ^ 64 → word ≢ 2 ^ 64 - 1 → (trailing_ones w64 word < 64) × IsClear 64 word (trailing_ones w64 word)
clear_word word less other =
    let x = bit_at-trailing_ones w64 word (omega arith) in
    let low : trailing_ones w64 word < 64 = x.0 in (
      low,
      record {
        below = omega arith;
        ones = λ j low. eq-eqb (bit_at word j) 1 (x.2 j low);
        clear = λ low. ne_eqb (bit_at word (trailing_ones w64 word)) 1 (λ e. omega (arith, x.1));
      },
    )

-- if a 32-bit word is below 2 ^ 16, its number of trailing ones is the index of its first clear bit, or 16 if the low 16 bits are
-- set
pub clear_half : (word : ℕ) → word < 65536 → IsClear 16 word (trailing_ones w32 word)
clear_half word less =
    let x = bit_at-trailing_ones w32 word (omega arith) in
    record {
      below = elim (cases_lt 16 (trailing_ones w32 word)) [
        | inl past ↦ absurd (omega (arith, x.2 16 past, bit_at_above word 16 16 less (omega arith)))
        | inr le ↦ le
      ];
      ones = λ j low. eq-eqb (bit_at word j) 1 (x.2 j low);
      clear = λ low. ne_eqb (bit_at word (trailing_ones w32 word)) 1 (λ e. omega (arith, x.1));
    }

-- byte k of a word in little-endian order is word / 2 ^ (8 * k) % 256
byte_of : (word k : ℕ) → k < 8 → get_or (to_le_bytes w64 word) k 0 ≡ word / 2 ^ (8 * k) % 256
byte_of word zero less = omega arith
byte_of word (suc zero) less = omega arith
byte_of word (suc (suc zero)) less = omega arith
byte_of word (suc (suc (suc zero))) less = omega arith
byte_of word (suc (suc (suc (suc zero)))) less = omega arith
byte_of word (suc (suc (suc (suc (suc zero))))) less = omega arith
byte_of word (suc (suc (suc (suc (suc (suc zero)))))) less = omega arith
byte_of word (suc (suc (suc (suc (suc (suc (suc zero))))))) less = omega arith
byte_of word (suc (suc (suc (suc (suc (suc (suc (suc k)))))))) less = absurd (omega arith)

-- n % 256 has the same low eight bits as n
low_bit : (n r : ℕ) → r < 8 → bit_at (n % 256) r ≡ bit_at n r
low_bit n r less =
    let split : n ≡ n / 256 * 2 ^ 8 + n % 256 = omega arith in
    sym (ap (λ m. bit_at m r) split ∙ bit_at_cat_low (n / 256) 8 (n % 256) r less)

-- if a word was read from the eight bytes at index `at`, its bit j is bit j % 8 of byte at + j / 8
bit_of_word : (bytes : List ℕ) (at word j : ℕ) → to_le_bytes w64 word ≡ slice_range bytes at (at + 8) → j < 64
    → bit_at (get_or bytes (at + j / 8) 0) (j % 8) ≡ bit_at word j
bit_of_word bytes at word j read less =
    ap (λ x. bit_at x (j % 8)) (sym here ∙ (ap (λ (xs : List ℕ). get_or xs k 0) (sym read) ∙ byte_of word k (omega arith)))
    ∙ (low_bit (word / 2 ^ (8 * k)) (j % 8) (omega arith) ∙ whole)
  where
    k : ℕ
    k = j / 8

    here : get_or (slice_range bytes at (at + 8)) k 0 ≡ get_or bytes (at + k) 0
    here =
        let eight : at + 8 - at ≡ 8 = omega arith in
        ap (λ n. get_or (take n (drop at bytes)) k 0) eight ∙ (get_or-take 8 (drop at bytes) k 0 (omega arith) ∙ get_or-drop at bytes k 0)

    whole : bit_at (word / 2 ^ (8 * k)) (j % 8) ≡ bit_at word j
    whole =
        let split : 8 * k + j % 8 ≡ j = omega arith in
        ap (λ n. n % 2) (div-div-eq-div-mul word (2 ^ (8 * k)) (2 ^ (j % 8)) ∙ (ap (λ p. word / p) (sym (pow-add 2 (8 * k) (j % 8))) ∙ ap (λ n. word / 2 ^ n) split))

-- if a word is bytes 8 * i to 8 * i + 7 of a record, its bit k is bit 64 * i + k of the record
bit_there : (bytes : List ℕ) (i word k j : ℕ) → to_le_bytes w64 word ≡ slice_range bytes (8 * i) (8 * i + 8) → k < 64 → j ≡ 64 * i + k
    → is_set (get_or bytes (j / 8) 0) (j % 8) ≡ is_set word k
bit_there bytes i word k j read less is =
    let byte : j / 8 ≡ 8 * i + k / 8 = omega arith in
    let bit : j % 8 ≡ k % 8 = omega arith in
    ap (λ n. is_set (get_or bytes n 0) (j % 8)) byte
    ∙ (ap (is_set (get_or bytes (8 * i + k / 8) 0)) bit ∙ ap (λ b. eqb b 1) (bit_of_word bytes (8 * i) word k read less))

-- every bit of the record with an index below `end` is 1
abbrev pub AreOnes : List ℕ → ℕ → Type 0
AreOnes bytes end = (j : ℕ) → j < end → is_set (get_or bytes (j / 8) 0) (j % 8) ≡ true

-- if all bits of a record below word i are 1, and all bits of word i below bit k are 1, all bits of the record below 64 * i + k
-- are 1
pub ones_more : (bytes : List ℕ) (i word k : ℕ) → AreOnes bytes (64 * i) → to_le_bytes w64 word ≡ slice_range bytes (8 * i) (8 * i + 8) → k ≤ 64 → ((j : ℕ) → j < k → is_set word j ≡ true)
    → AreOnes bytes (64 * i + k)
ones_more bytes i word k ones read few bits j less = elim (cases_lt j (64 * i)) [
  | inl low ↦ ones j low
  | inr high ↦ bit_there bytes i word (j - 64 * i) j read (omega arith) (omega arith) ∙ bits (j - 64 * i) (omega arith)
]

-- if all bits of a record below word i are 1, and all bits of word i are 1, all bits of the record below word i + 1 are 1
pub ones_full : (bytes : List ℕ) (i word : ℕ) → AreOnes bytes (64 * i) → to_le_bytes w64 word ≡ slice_range bytes (8 * i) (8 * i + 8) → word ≡ 2 ^ 64 - 1
    → AreOnes bytes (64 * (i + 1))
ones_full bytes i word ones read full =
    let more : 64 * i + 64 ≡ 64 * (i + 1) = omega arith in
    subst (AreOnes bytes) more (ones_more bytes i word 64 ones read (omega arith) (λ j less. ap (λ x. is_set x j) full ∙ eq-eqb (bit_at (2 ^ 64 - 1) j) 1 (bit_at_ones 64 j less)))

-- if bit k is the first clear bit of word i, bit 64 * i + k of the record is clear
pub clear_there : (bytes : List ℕ) (i word k : ℕ) → to_le_bytes w64 word ≡ slice_range bytes (8 * i) (8 * i + 8) → k < 64 → IsClear 64 word k
    → is_set (get_or bytes ((64 * i + k) / 8) 0) ((64 * i + k) % 8) ≡ false
clear_there bytes i word k read less is = bit_there bytes i word k (64 * i + k) read less refl ∙ is.clear less

-- if all bits of a record are 1, each of its bytes is 255
pub full_by_ones : (bytes : List ℕ) (at : ℕ) → AreOnes bytes (8 * length bytes) → at < length bytes → get_or bytes at 0 < 256 → get_or bytes at 0 ≡ 255
full_by_ones bytes at ones within small =
    same_from_bits_below 8 (get_or bytes at 0) 255 small (omega arith) (λ j less.
    let byte : (8 * at + j) / 8 ≡ at = omega arith in
    let bit : (8 * at + j) % 8 ≡ j = omega arith in
    sym (ap (λ n. bit_at (get_or bytes n 0) ((8 * at + j) % 8)) byte ∙ ap (bit_at (get_or bytes at 0)) bit)
    ∙ (eqb-true (bit_at (get_or bytes ((8 * at + j) / 8) 0) ((8 * at + j) % 8)) 1 (ones (8 * at + j) (omega arith)) ∙ sym (bit_at_ones 8 j less)))

-- Suppose that i is at most n, that p is true for the numbers from k to k + i - 1, and that p is false for k + i unless i is n.
-- Then the search for a false flag among the n flags of p that begin with that of k returns i.
pub first_clear : (k n i : ℕ) (p : ℕ → Bool) → i ≤ n → ((j : ℕ) → k ≤ j → j < k + i → p j ≡ true) → (i < n → p (k + i) ≡ false) → position_or_len not (flags_from k n p) ≡ i
first_clear k zero i p few ones clear = omega arith
first_clear k (suc n) zero p few ones clear =
    let none : p k ≡ false = ap p (omega arith) ∙ clear (omega arith) in
    ap (λ b. position_or_len not (b ∷ flags_from (suc k) n p)) none
first_clear k (suc n) (suc i) p few ones clear =
    let up : p k ≡ true = ones k (omega arith) (omega arith) in
    let rest = first_clear (suc k) n i p (omega arith) (λ j low high. ones j (omega arith) (omega arith)) (λ less. ap p (omega arith) ∙ clear (omega arith)) in
    ap (λ b. position_or_len not (b ∷ flags_from (suc k) n p)) up ∙ omega (arith, rest)

-- Suppose that i is the first number below `bound` for which p is false, or `bound` if there is none. If n is at most `bound`,
-- the search for a false flag among the first n flags of p returns min i n.
pub least_of : (n bound i : ℕ) (p : ℕ → Bool) → n ≤ bound → i ≤ bound → ((j : ℕ) → j < i → p j ≡ true) → (i < bound → p i ≡ false) → min i n ≡ position_or_len not (flags n p)
least_of n bound i p few below ones clear = elim (cases_lt i n) [
  | inl less ↦
      let m : min i n ≡ i = omega arith in
      m ∙ sym (first_clear 0 n i p (omega arith) (λ j low high. ones j (omega arith)) (λ q. ap p (omega arith) ∙ clear (omega arith)))
  | inr ge ↦
      let m : min i n ≡ n = omega arith in
      m ∙ sym (first_clear 0 n n p (omega arith) (λ j low high. ones j (omega arith)) (λ q. absurd (omega arith)))
]
