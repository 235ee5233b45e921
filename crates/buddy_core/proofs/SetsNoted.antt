-- How `Summary::note` goes over the orders whose bit changes.
use Rattle.std.proofs.Common.{◌≡◌, ◌⊎◌, refl, inl, inr, sym, ◌∙◌, ap, subst, ℕ, ◌+◌, ◌-◌, ◌*◌, ◌/◌, ◌%◌, ◌^◌, ◌<◌, ◌==◌, Bool, true, false, not, List, [], length, get_or, set, length-set, bit_and, bit_xor, w32, arith}
use Rattle.std.specs.Int.{bit_at}
use Rattle.std.specs.Int.Count.{count_trailing_zeros}
use Rattle.std.proofs.lemmas.Bool.{cases_eq, cases_lt}
use Rattle.std.proofs.lemmas.List.{get_or-set_same, get_or-set_other, set-get_or}
use Rattle.std.proofs.lemmas.Nat.{and_le_l}
use Rattle.std.proofs.lemmas.Nat.Bits.{bit_at_xor, bit_at-lt, bit_at_above, bit_at_clear_same, bit_at_clear_other, bit_at-trailing_zeros}
use Rattle.std.proofs.Math.ListN.{get_or-eq_default}
use Rattle.buddy_core.specs.SummaryWords.{column, sets_of, IsSummary, flipped}
use Rattle.buddy_core.proofs.SetFlipped.{sets_size, slot_lt, word_listed, row_lt, word_is, alone_stored, alone_sets, others_stored, others_sets}

-- The sets of the orders whose bit in `changed` is 1 are as they were, and all other sets are as the new word says.
pub record ArePartlyNoted (slots : ℕ) (sets : List (List Bool)) (slot old new changed : ℕ) (filled words : List ℕ) : Type 0 where
  pub stored : IsSummary slots filled words
  pub size : length filled ≡ length sets
  pub left : (j : ℕ) → bit_at changed j ≡ 1 → bit_at (bit_xor old new) j ≡ 1
  pub same : (j : ℕ) → bit_at changed j ≡ 1 → get_or (sets_of slots filled words) j [] ≡ get_or sets j []
  pub noted : (j : ℕ) → bit_at changed j ≡ 0 → get_or (sets_of slots filled words) j [] ≡ set (get_or sets j []) slot (bit_at new j == 1)

-- a number that is in a set has an order for which there is a set
in_some : (sets : List (List Bool)) (j slot : ℕ) → get_or (get_or sets j []) slot false ≡ true → j < length sets
in_some sets j slot is_in =
    elim (cases_lt j (length sets)) [
      | inl lt ↦ lt
      | inr past ↦ absurd (let off : get_or (get_or sets j []) slot false ≡ false = ap (λ (s : List Bool). get_or s slot false) (get_or-eq_default sets [] past) in cc)
    ]

module _ (sets : List (List Bool)) (slot old new : ℕ) (before : (j : ℕ) → get_or (get_or sets j []) slot false ≡ (bit_at old j == 1)) (orders : (j : ℕ) → bit_at new j ≡ 1 → j < length sets) where
  within : (j : ℕ) → bit_at (bit_xor old new) j ≡ 1 → j < length sets
  within j bit =
      elim (cases_eq (bit_at new j) 1) [
        | inl on ↦ orders j on
        | inr off ↦
            let one : bit_at old j ≡ 1 = omega (arith, bit_at_xor old new j, bit_at-lt old j, bit_at-lt new j) in
            in_some sets j slot (before j ∙ ap (λ n. n == 1) one)
      ]

  pub as_before : (j : ℕ) → bit_at (bit_xor old new) j ≡ 0 → get_or sets j [] ≡ set (get_or sets j []) slot (bit_at new j == 1)
  as_before j bit =
      let same : bit_at old j ≡ bit_at new j = omega (arith, bit_at_xor old new j, bit_at-lt old j, bit_at-lt new j) in
      sym (ap (set (get_or sets j []) slot) (sym (ap (λ n. n == 1) same) ∙ sym (before j)) ∙ set-get_or (get_or sets j []) slot false)

  -- an order whose bit changes has the new bit in its set once the slot is turned
  turned : (j : ℕ) → bit_at (bit_xor old new) j ≡ 1 → flipped (get_or sets j []) slot ≡ set (get_or sets j []) slot (bit_at new j == 1)
  turned j bit =
      ap (λ b. set (get_or sets j []) slot (not b)) (before j)
      ∙ ap (set (get_or sets j []) slot) (elim (cases_eq (bit_at new j) 1) [
        | inl on ↦
            let zero : bit_at old j ≡ 0 = omega (arith, bit_at_xor old new j, bit_at-lt old j, on) in
            ap (λ n. not (n == 1)) zero ∙ sym (ap (λ n. n == 1) on)
        | inr off ↦
            let zero : bit_at new j ≡ 0 = omega (arith, bit_at-lt new j, off) in
            let one : bit_at old j ≡ 1 = omega (arith, bit_at_xor old new j, bit_at-lt old j, zero) in
            ap (λ n. not (n == 1)) one ∙ sym (ap (λ n. n == 1) zero)
      ])

-- the order that is written next is the lowest one whose bit is 1
lowest : (changed : ℕ) → (changed ≡ 0 → ⊥) → changed < 4294967296 → (count_trailing_zeros 32 changed < 32) × (bit_at changed (count_trailing_zeros 32 changed) ≡ 1)
lowest changed some fits = let low = bit_at-trailing_zeros w32 changed (omega (arith, some)) fits in (low.0, low.1)

-- `rest` is `changed` without the bit of order k
module _ (changed k rest : ℕ) (k_lt : k < 32) (bit : bit_at changed k ≡ 1) (fits : changed < 4294967296) (is : rest ≡ bit_and changed (4294967295 - 1 * 2 ^ k % 4294967296)) where
  rest_here : bit_at rest k ≡ 0
  rest_here = ap (λ n. bit_at n k) is ∙ bit_at_clear_same w32 changed k k_lt

  rest_less : rest < changed
  rest_less =
      let le = and_le_l changed (4294967295 - 1 * 2 ^ k % 4294967296) in
      elim (cases_eq rest changed) [
        | inl e ↦ absurd (let on : bit_at rest k ≡ 1 = ap (λ n. bit_at n k) e ∙ bit in omega (arith, rest_here))
        | inr ne ↦ omega arith
      ]

  rest_other : (j : ℕ) → (j ≡ k → ⊥) → bit_at rest j ≡ bit_at changed j
  rest_other j ne =
      elim (cases_lt j 32) [
        | inl lt ↦ ap (λ n. bit_at n j) is ∙ bit_at_clear_other w32 changed k k_lt j lt ne
        | inr past ↦ bit_at_above rest 32 j (let less = rest_less in omega arith) past ∙ sym (bit_at_above changed 32 j fits past)
      ]

-- The loop writes the set of the lowest order whose bit in `changed` is 1. `row` is the row of the slot's words.
pub record IsAtOrder (slots slot old new : ℕ) (sets : List (List Bool)) (changed row : ℕ) (filled words : List ℕ) : Type 0 where
  pub inside : (j : ℕ) → j < length sets → slot < length (get_or sets j [])
  pub before : (j : ℕ) → get_or (get_or sets j []) slot false ≡ (bit_at old j == 1)
  pub orders : (j : ℕ) → bit_at new j ≡ 1 → j < length sets
  pub so_far : ArePartlyNoted slots sets slot old new changed filled words
  pub some : changed ≡ 0 → ⊥
  pub fits : changed < 4294967296
  pub row_is : row ≡ slot / 64

module _ {slots slot old new : ℕ} {sets : List (List Bool)} {changed row : ℕ} {filled words : List ℕ} (h : IsAtOrder slots slot old new sets changed row filled words) where
  abbrev k : ℕ
  k = count_trailing_zeros 32 changed

  low : (count_trailing_zeros 32 changed < 32) × (bit_at changed (count_trailing_zeros 32 changed) ≡ 1)
  low = lowest changed h.some h.fits

  abbrev rest : ℕ
  rest = bit_and changed (4294967295 - 1 * 2 ^ count_trailing_zeros 32 changed % 4294967296)

  pub smaller : bit_and changed (4294967295 - 1 * 2 ^ count_trailing_zeros 32 changed % 4294967296) < changed
  smaller = rest_less changed k rest low.0 low.1 h.fits refl

  listed : count_trailing_zeros 32 changed < length sets
  listed = within sets slot old new h.before h.orders k (h.so_far.left k low.1)

  pub order_listed : count_trailing_zeros 32 changed < length filled
  order_listed = omega (arith, listed, h.so_far.size)

  slot_inside : slot < slots
  slot_inside = slot_lt slots filled words k slot order_listed (subst (λ (x : List Bool). slot < length x) (sym (h.so_far.same k low.1)) (h.inside k listed))

  pub row_small : row < 64
  row_small = omega (arith, h.row_is, row_lt slots filled words h.so_far.stored k slot order_listed slot_inside)

  at : row * 16 + count_trailing_zeros 32 changed ≡ slot / 64 * 16 + count_trailing_zeros 32 changed
  at = ap (λ n. n * 16 + k) h.row_is

  pub word_inside : row * 16 + count_trailing_zeros 32 changed < length words
  word_inside = omega (arith, at, word_listed slots filled words h.so_far.stored k slot order_listed slot_inside)

  word : get_or words (row * 16 + count_trailing_zeros 32 changed) 0 ≡ get_or (column words (count_trailing_zeros 32 changed)) (slot / 64) 0
  word = ap (λ n. get_or words n 0) at ∙ word_is slots filled words h.so_far.stored k slot order_listed slot_inside

  here : flipped (get_or (sets_of slots filled words) (count_trailing_zeros 32 changed) []) slot
      ≡ set (get_or sets (count_trailing_zeros 32 changed) []) slot (bit_at new (count_trailing_zeros 32 changed) == 1)
  here = ap (λ (s : List Bool). flipped s slot) (h.so_far.same k low.1) ∙ turned sets slot old new h.before h.orders k (h.so_far.left k low.1)

  module _ (filled' words' : List ℕ) (stored : IsSummary slots filled' words') (size : length filled' ≡ length filled)
      (now : sets_of slots filled' words' ≡ set (sets_of slots filled words) (count_trailing_zeros 32 changed) (flipped (get_or (sets_of slots filled words) (count_trailing_zeros 32 changed) []) slot)) where
    still : (j : ℕ) → bit_at rest j ≡ 1 → (j ≡ k → ⊥) × (bit_at changed j ≡ 1)
    still j on = (off, sym (rest_other changed k rest low.0 low.1 h.fits refl j off) ∙ on)
      where
        off : j ≡ k → ⊥
        off e = let none = ap (bit_at rest) e ∙ rest_here changed k rest low.0 low.1 h.fits refl in omega (arith, none, on)

    set_now : (j : ℕ) → get_or (sets_of slots filled' words') j [] ≡ get_or (set (sets_of slots filled words) k (flipped (get_or (sets_of slots filled words) k []) slot)) j []
    set_now j = ap (λ (xs : List (List Bool)). get_or xs j []) now

    other : (j : ℕ) → (j ≡ k → ⊥) → get_or (sets_of slots filled' words') j [] ≡ get_or (sets_of slots filled words) j []
    other j ne = set_now j ∙ get_or-set_other (sets_of slots filled words) k j (flipped (get_or (sets_of slots filled words) k []) slot) [] ne

    done : (j : ℕ) → bit_at rest j ≡ 0 → (j ≡ k) ⊎ (j ≡ k → ⊥) → get_or (sets_of slots filled' words') j [] ≡ set (get_or sets j []) slot (bit_at new j == 1)
    done j off (inl e) =
        set_now j
        ∙ ap (λ n. get_or (set (sets_of slots filled words) k (flipped (get_or (sets_of slots filled words) k []) slot)) n []) e
        ∙ get_or-set_same (sets_of slots filled words) k (flipped (get_or (sets_of slots filled words) k []) slot) [] (omega (arith, sets_size slots filled words, order_listed))
        ∙ here
        ∙ sym (ap (λ n. set (get_or sets n []) slot (bit_at new n == 1)) e)
    done j off (inr ne) = other j ne ∙ h.so_far.noted j (sym (rest_other changed k rest low.0 low.1 h.fits refl j ne) ∙ off)

    next : ArePartlyNoted slots sets slot old new rest filled' words'
    next = record {
      stored = stored;
      size = size ∙ h.so_far.size;
      left = λ j on. h.so_far.left j (still j on).1;
      same = λ j on. other j (still j on).0 ∙ h.so_far.same j (still j on).1;
      noted = λ j off. done j off (cases_eq j k);
    }

  module _ (word_fits : bit_xor (get_or words (row * 16 + count_trailing_zeros 32 changed) 0) (1 * 2 ^ (slot % 64) % 18446744073709551616) < 2 ^ 64) where
    pub alone_next : bit_and (bit_xor (get_or words (row * 16 + count_trailing_zeros 32 changed) 0) (1 * 2 ^ (slot % 64) % 18446744073709551616)) (18446744073709551615 - 1 * 2 ^ (slot % 64) % 18446744073709551616) ≡ 0
        → ArePartlyNoted slots sets slot old new (bit_and changed (4294967295 - 1 * 2 ^ count_trailing_zeros 32 changed % 4294967296))
        (set filled (count_trailing_zeros 32 changed) (bit_xor (get_or filled (count_trailing_zeros 32 changed) 0) (1 * 2 ^ row % 18446744073709551616)))
        (set words (row * 16 + count_trailing_zeros 32 changed) (bit_xor (get_or words (row * 16 + count_trailing_zeros 32 changed) 0) (1 * 2 ^ (slot % 64) % 18446744073709551616)))
    alone_next alone =
        rw (word, h.row_is)
        (next (set filled k (bit_xor (get_or filled k 0) (1 * 2 ^ (slot / 64) % 18446744073709551616)))
        (set words (slot / 64 * 16 + k) (bit_xor (get_or (column words k) (slot / 64) 0) (1 * 2 ^ (slot % 64) % 18446744073709551616)))
        (alone_stored slots filled words h.so_far.stored k slot order_listed slot_inside (rw (word) at word_fits) (rw (word) at alone))
        (length-set filled k (bit_xor (get_or filled k 0) (1 * 2 ^ (slot / 64) % 18446744073709551616)))
        (alone_sets slots filled words h.so_far.stored k slot order_listed slot_inside (rw (word) at word_fits) (rw (word) at alone)))

    pub others_next : (bit_and (bit_xor (get_or words (row * 16 + count_trailing_zeros 32 changed) 0) (1 * 2 ^ (slot % 64) % 18446744073709551616)) (18446744073709551615 - 1 * 2 ^ (slot % 64) % 18446744073709551616) ≡ 0 → ⊥)
        → ArePartlyNoted slots sets slot old new (bit_and changed (4294967295 - 1 * 2 ^ count_trailing_zeros 32 changed % 4294967296)) filled
        (set words (row * 16 + count_trailing_zeros 32 changed) (bit_xor (get_or words (row * 16 + count_trailing_zeros 32 changed) 0) (1 * 2 ^ (slot % 64) % 18446744073709551616)))
    others_next others =
        rw (word, h.row_is)
        (next filled (set words (slot / 64 * 16 + k) (bit_xor (get_or (column words k) (slot / 64) 0) (1 * 2 ^ (slot % 64) % 18446744073709551616)))
        (others_stored slots filled words h.so_far.stored k slot order_listed slot_inside (rw (word) at word_fits) (rw (word) at others))
        refl
        (others_sets slots filled words h.so_far.stored k slot order_listed slot_inside (rw (word) at word_fits) (rw (word) at others)))
