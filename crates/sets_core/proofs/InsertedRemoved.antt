-- A set after a bit of a word is set or cleared.
use Rattle.std.proofs.Common.{◌≡◌, ◌==◌, refl, ap, ◌∙◌, ℕ, ◌-◌, ◌*◌, ◌/◌, ◌%◌, ◌^◌, ◌<◌, List, length, true, false, get_or, set, bit_and, bit_or, arith, w64}
use Rattle.std.specs.Int.{bit_at}
use Rattle.std.proofs.lemmas.List.FromFn.{length-map-range_with_len}
use Rattle.std.proofs.lemmas.Nat.{and_le_l}
use Rattle.std.proofs.lemmas.Nat.Bits.{bit_at_set_same, bit_at_set_other, bit_at_clear_same, bit_at_clear_other, bit_at-zero}
use Rattle.sets_core.specs.Members.{has, members, IsBitSet}
use Rattle.sets_core.proofs.OneNumber.{stored_after, members_after}

-- the number of a call is below the size
pub number_lt : (size : ℕ) (words : List ℕ) (i : ℕ) → i < length (members size words) → i < size
number_lt size words i lt = omega (arith, length-map-range_with_len (has words) 0 size)

-- n with bit k set, and cleared
abbrev set_bit : ℕ → ℕ → ℕ
set_bit n k = bit_or n (1 * 2 ^ k % 18446744073709551616)

abbrev clear_bit : ℕ → ℕ → ℕ
clear_bit n k = bit_and n (18446744073709551615 - 1 * 2 ^ k % 18446744073709551616)

module _ (size filled : ℕ) (words : List ℕ) (i : ℕ) (stored : IsBitSet size filled words) (i_lt : i < size) where
  word_lt : i / 64 < 64
  word_lt = omega (arith, stored.room, stored.few)

  pub word_listed : i / 64 < length words
  word_listed = omega (arith, stored.room)

  set_some : set_bit (get_or words (i / 64) 0) (i % 64) ≡ 0 → ⊥
  set_some none =
      let on = bit_at_set_same w64 (get_or words (i / 64) 0) (i % 64) (omega arith) in
      let off = ap (λ n. bit_at n (i % 64)) none ∙ bit_at-zero (i % 64) in
      omega arith

  pub inserted_stored : IsBitSet size (set_bit filled (i / 64)) (set words (i / 64) (set_bit (get_or words (i / 64) 0) (i % 64)))
  inserted_stored =
      stored_after size filled (set_bit filled (i / 64)) words i (set_bit (get_or words (i / 64) 0) (i % 64)) true stored i_lt
      (ap (λ n. n == 1) (bit_at_set_same w64 (get_or words (i / 64) 0) (i % 64) (omega arith))) (λ j j_lt ne. bit_at_set_other w64 (get_or words (i / 64) 0) (i % 64) (omega arith) j ne)
      (λ _. set_some, λ _. bit_at_set_same w64 filled (i / 64) word_lt) (λ w w_lt ne. bit_at_set_other w64 filled (i / 64) word_lt w ne)

  pub inserted_members : members size (set words (i / 64) (set_bit (get_or words (i / 64) 0) (i % 64))) ≡ set (members size words) i true
  inserted_members =
      members_after size filled (set_bit filled (i / 64)) words i (set_bit (get_or words (i / 64) 0) (i % 64)) true stored i_lt
      (ap (λ n. n == 1) (bit_at_set_same w64 (get_or words (i / 64) 0) (i % 64) (omega arith))) (λ j j_lt ne. bit_at_set_other w64 (get_or words (i / 64) 0) (i % 64) (omega arith) j ne)
      (λ _. set_some, λ _. bit_at_set_same w64 filled (i / 64) word_lt) (λ w w_lt ne. bit_at_set_other w64 filled (i / 64) word_lt w ne)

  -- the last number of the word was taken out, so the bit of the word is cleared
  pub emptied_stored : clear_bit (get_or words (i / 64) 0) (i % 64) ≡ 0
      → IsBitSet size (clear_bit filled (i / 64)) (set words (i / 64) (clear_bit (get_or words (i / 64) 0) (i % 64)))
  emptied_stored none =
      stored_after size filled (clear_bit filled (i / 64)) words i (clear_bit (get_or words (i / 64) 0) (i % 64)) false stored i_lt
      (ap (λ n. n == 1) (bit_at_clear_same w64 (get_or words (i / 64) 0) (i % 64) (omega arith))) (λ j j_lt ne. bit_at_clear_other w64 (get_or words (i / 64) 0) (i % 64) (omega arith) j j_lt ne)
      (λ bit. absurd (let off = bit_at_clear_same w64 filled (i / 64) word_lt in omega arith), λ some. absurd (some none)) (λ w w_lt ne. bit_at_clear_other w64 filled (i / 64) word_lt w w_lt ne)

  pub emptied_members : clear_bit (get_or words (i / 64) 0) (i % 64) ≡ 0
      → members size (set words (i / 64) (clear_bit (get_or words (i / 64) 0) (i % 64))) ≡ set (members size words) i false
  emptied_members none =
      members_after size filled (clear_bit filled (i / 64)) words i (clear_bit (get_or words (i / 64) 0) (i % 64)) false stored i_lt
      (ap (λ n. n == 1) (bit_at_clear_same w64 (get_or words (i / 64) 0) (i % 64) (omega arith))) (λ j j_lt ne. bit_at_clear_other w64 (get_or words (i / 64) 0) (i % 64) (omega arith) j j_lt ne)
      (λ bit. absurd (let off = bit_at_clear_same w64 filled (i / 64) word_lt in omega arith), λ some. absurd (some none)) (λ w w_lt ne. bit_at_clear_other w64 filled (i / 64) word_lt w w_lt ne)

  -- the word keeps some number, so it had one before
  was_some : (clear_bit (get_or words (i / 64) 0) (i % 64) ≡ 0 → ⊥) → get_or words (i / 64) 0 ≡ 0 → ⊥
  was_some some none = some (omega (arith, and_le_l (get_or words (i / 64) 0) (18446744073709551615 - 1 * 2 ^ (i % 64) % 18446744073709551616)))

  pub removed_stored : (clear_bit (get_or words (i / 64) 0) (i % 64) ≡ 0 → ⊥) → IsBitSet size filled (set words (i / 64) (clear_bit (get_or words (i / 64) 0) (i % 64)))
  removed_stored some =
      stored_after size filled filled words i (clear_bit (get_or words (i / 64) 0) (i % 64)) false stored i_lt
      (ap (λ n. n == 1) (bit_at_clear_same w64 (get_or words (i / 64) 0) (i % 64) (omega arith))) (λ j j_lt ne. bit_at_clear_other w64 (get_or words (i / 64) 0) (i % 64) (omega arith) j j_lt ne)
      (λ _. some, λ _. (stored.bits (i / 64) word_lt).1 (was_some some)) (λ w w_lt ne. refl)

  pub removed_members : (clear_bit (get_or words (i / 64) 0) (i % 64) ≡ 0 → ⊥)
      → members size (set words (i / 64) (clear_bit (get_or words (i / 64) 0) (i % 64))) ≡ set (members size words) i false
  removed_members some =
      members_after size filled filled words i (clear_bit (get_or words (i / 64) 0) (i % 64)) false stored i_lt
      (ap (λ n. n == 1) (bit_at_clear_same w64 (get_or words (i / 64) 0) (i % 64) (omega arith))) (λ j j_lt ne. bit_at_clear_other w64 (get_or words (i / 64) 0) (i % 64) (omega arith) j j_lt ne)
      (λ _. some, λ _. (stored.bits (i / 64) word_lt).1 (was_some some)) (λ w w_lt ne. refl)
