-- A summary after one slot is put into one set, or taken out of it.
use Rattle.std.proofs.Common.{◌≡◌, ◌↔◌, ◌⊎◌, inl, inr, refl, sym, ◌∙◌, ap, subst, ℕ, ◌+◌, ◌-◌, ◌*◌, ◌/◌, ◌%◌, ◌^◌, ◌<◌, ◌≤◌, ◌==◌, Bool, false, not, List, [], length, get_or, set, length-set, bit_and, bit_xor, w64, arith}
use Rattle.std.specs.Int.{bit_at, trailing_zeros}
use Rattle.std.specs.Int.Bits.{xor_assoc, xor_self, xor_zero_r}
use Rattle.std.proofs.lemmas.Bool.{cases_eq}
use Rattle.std.proofs.lemmas.List.{get_or-set_same, get_or-set_other, set-get_or, same_lists}
use Rattle.std.proofs.lemmas.Nat.{and_le_l, xor_lt}
use Rattle.std.proofs.lemmas.List.FromFn.{get_or-map-range_with_len, length-map-range_with_len}
use Rattle.std.proofs.lemmas.Nat.Bits.{bit_at_xor, bit_at-lt, bit_at-zero, bit_at-pow_same, bit_at-pow_other, bit_at-trailing_zeros, bit_at_clear_same, bit_at_clear_other}
use Rattle.std.proofs.Math.Pow.{pow-lt}
use Rattle.sets_core.specs.Members.{has, members, IsBitSet}
use Rattle.sets_core.proofs.OneNumber.{stored_after, members_after}
use Rattle.buddy_core.specs.SummaryWords.{column, sets_of, IsSummary, flipped}
use Rattle.buddy_core.proofs.SummaryColumns.{column_size, column_at, column_set, column_other}

-- n with bit k turned
abbrev turned : ℕ → ℕ → ℕ
turned n k = bit_xor n (1 * 2 ^ k % 18446744073709551616)

one_bit : (k : ℕ) → k < 64 → 1 * 2 ^ k % 18446744073709551616 ≡ 2 ^ k
one_bit k lt = let small : 2 ^ k < 2 ^ 64 = pow-lt lt in omega (arith, small)

turned_bit : (n k : ℕ) → k < 64 → bit_at (turned n k) k ≡ (bit_at n k + 1) % 2
turned_bit n k lt = bit_at_xor n (1 * 2 ^ k % 18446744073709551616) k ∙ ap (λ m. (bit_at n k + m) % 2) (ap (λ m. bit_at m k) (one_bit k lt) ∙ bit_at-pow_same k)

turned_here : (n k : ℕ) → k < 64 → (bit_at (turned n k) k == 1) ≡ not (bit_at n k == 1)
turned_here n k lt =
    let bit = turned_bit n k lt in
    elim (cases_eq (bit_at n k) 1) [
      | inl on ↦ ap (λ m. m == 1) (bit ∙ ap (λ m. (m + 1) % 2) on) ∙ sym (ap (λ m. not (m == 1)) on)
      | inr off ↦
          let zero : bit_at n k ≡ 0 = omega (arith, bit_at-lt n k, off) in
          ap (λ m. m == 1) (bit ∙ ap (λ m. (m + 1) % 2) zero) ∙ sym (ap (λ m. not (m == 1)) zero)
    ]

turned_other : (n k i : ℕ) → k < 64 → (i ≡ k → ⊥) → bit_at (turned n k) i ≡ bit_at n i
turned_other n k i lt ne =
    bit_at_xor n (1 * 2 ^ k % 18446744073709551616) i
    ∙ ap (λ m. (bit_at n i + m) % 2) (ap (λ m. bit_at m i) (one_bit k lt) ∙ bit_at-pow_other k i ne)
    ∙ (omega (arith, bit_at-lt n i))

-- a number that is not 0 has a bit
some_bit : (n : ℕ) → n < 2 ^ 64 → (n ≡ 0 → ⊥) → (i : ℕ) × (i < 64) × (bit_at n i ≡ 1)
some_bit n fits some = let low = bit_at-trailing_zeros w64 n (omega (arith, some)) fits in (trailing_zeros w64 n, low.0, low.1)

turned_fits : (n k : ℕ) → k < 64 → n < 2 ^ 64 → turned n k < 2 ^ 64
turned_fits n k lt fits = xor_lt 64 n (1 * 2 ^ k % 18446744073709551616) fits (let small : 2 ^ k < 2 ^ 64 = pow-lt lt in omega (arith, one_bit k lt, small))

turned_back : (n k : ℕ) → turned (turned n k) k ≡ n
turned_back n k =
    xor_assoc n (1 * 2 ^ k % 18446744073709551616) (1 * 2 ^ k % 18446744073709551616) ∙ ap (bit_xor n) (xor_self (1 * 2 ^ k % 18446744073709551616)) ∙ xor_zero_r n

-- n with bit k turned has no bit but k
module _ (n k : ℕ) (k_lt : k < 64) (fits : n < 2 ^ 64) (alone : bit_and (turned n k) (18446744073709551615 - 1 * 2 ^ k % 18446744073709551616) ≡ 0) where
  only_here : (i : ℕ) → i < 64 → bit_at (turned n k) i ≡ 1 → i ≡ k
  only_here i lt on =
      elim (cases_eq i k) [
        | inl e ↦ e
        | inr ne ↦
            let off : bit_at (turned n k) i ≡ 0 = sym (bit_at_clear_other w64 (turned n k) k k_lt i lt ne) ∙ ap (λ m. bit_at m i) alone ∙ bit_at-zero i in
            absurd (omega (arith, on, off))
      ]

  from_zero : n ≡ 0 → turned n k ≡ 0 → ⊥
  from_zero zero none =
      let off : bit_at n k ≡ 0 = ap (λ m. bit_at m k) zero ∙ bit_at-zero k in
      let now : bit_at (turned n k) k ≡ 0 = ap (λ m. bit_at m k) none ∙ bit_at-zero k in
      omega (arith, turned_bit n k k_lt, off, now)

  to_zero : (n ≡ 0 → ⊥) → turned n k ≡ 0
  to_zero some =
      elim (cases_eq (turned n k) 0) [
        | inl none ↦ none
        | inr left ↦
            let v = some_bit (turned n k) (turned_fits n k k_lt fits) left in
            let on : bit_at (turned n k) k ≡ 1 = ap (bit_at (turned n k)) (sym (only_here v.0 v.1 v.2)) ∙ v.2 in
            let off : bit_at n k ≡ 0 = omega (arith, turned_bit n k k_lt, on, bit_at-lt n k) in
            let w = some_bit n fits some in
            absurd (elim (cases_eq w.0 k) [
              | inl e ↦ let here : bit_at n k ≡ 1 = ap (bit_at n) (sym e) ∙ w.2 in omega (arith, here, off)
              | inr ne ↦ ne (only_here w.0 w.1 (turned_other n k w.0 k_lt ne ∙ w.2))
            ])
      ]

-- n with bit k turned has a bit besides k, so it is not 0, and neither is n
both_some : (n k : ℕ) → k < 64 → n < 2 ^ 64 → (bit_and (turned n k) (18446744073709551615 - 1 * 2 ^ k % 18446744073709551616) ≡ 0 → ⊥) → (n ≡ 0 → ⊥) × (turned n k ≡ 0 → ⊥)
both_some n k lt fits others =
    let rest = bit_and (turned n k) (18446744073709551615 - 1 * 2 ^ k % 18446744073709551616) in
    let le : rest ≤ turned n k = and_le_l (turned n k) (18446744073709551615 - 1 * 2 ^ k % 18446744073709551616) in
    let c = some_bit rest (omega (arith, le, turned_fits n k lt fits)) others in
    let ne : c.0 ≡ k → ⊥ = λ e. let off : bit_at rest c.0 ≡ 0 = ap (bit_at rest) e ∙ bit_at_clear_same w64 (turned n k) k lt in omega (arith, off, c.2) in
    let on : bit_at (turned n k) c.0 ≡ 1 = sym (bit_at_clear_other w64 (turned n k) k lt c.0 c.1 ne) ∙ c.2 in
    let was : bit_at n c.0 ≡ 1 = sym (turned_other n k c.0 lt ne) ∙ on in (
      λ zero. let off : bit_at n c.0 ≡ 0 = ap (λ m. bit_at m c.0) zero ∙ bit_at-zero c.0 in omega (arith, off, was),
      λ zero. let off : bit_at (turned n k) c.0 ≡ 0 = ap (λ m. bit_at m c.0) zero ∙ bit_at-zero c.0 in omega (arith, off, on),
    )

pub sets_size : (slots : ℕ) (filled words : List ℕ) → length (sets_of slots filled words) ≡ length filled
sets_size slots filled words = length-map-range_with_len (λ i. members slots (column words i)) 0 (length filled)

pub set_at : (slots : ℕ) (filled words : List ℕ) (j : ℕ) (d : List Bool) → j < length filled → get_or (sets_of slots filled words) j d ≡ members slots (column words j)
set_at slots filled words j d lt = get_or-map-range_with_len (λ i. members slots (column words i)) 0 (length filled) j j d lt (omega arith)

pub order_lt : (slots : ℕ) (filled words : List ℕ) (j : ℕ) → j < length (sets_of slots filled words) → j < length filled
order_lt slots filled words j lt = omega (arith, sets_size slots filled words)

pub slot_lt : (slots : ℕ) (filled words : List ℕ) (j u : ℕ) → j < length filled → u < length (get_or (sets_of slots filled words) j []) → u < slots
slot_lt slots filled words j u j_lt lt =
    let size : length (get_or (sets_of slots filled words) j []) ≡ slots
    = ap length (set_at slots filled words j [] j_lt) ∙ length-map-range_with_len (has (column words j)) 0 slots in
    omega (arith, size)

module _ (slots : ℕ) (filled words : List ℕ) (stored : IsSummary slots filled words) (j u : ℕ) (j_lt : j < length filled) (u_lt : u < slots) where
  row_listed : u / 64 < length words / 16
  row_listed = omega (arith, (stored.sets j j_lt).room, column_size words j, u_lt)

  pub word_listed : u / 64 * 16 + j < length words
  word_listed = omega (arith, row_listed, stored.few, j_lt)

  pub row_lt : u / 64 < 64
  row_lt = omega (arith, (stored.sets j j_lt).room, (stored.sets j j_lt).few, u_lt)

  word : ℕ
  word = get_or (column words j) (u / 64) 0

  pub word_is : get_or words (u / 64 * 16 + j) 0 ≡ get_or (column words j) (u / 64) 0
  word_is = sym (column_at words j (u / 64) 0 row_listed)

  -- the word of the slot is written, and `filled'` says whether it is 0
  module _ (filled' : ℕ) (mark : (bit_at filled' (u / 64) ≡ 1) ↔ (turned (get_or (column words j) (u / 64) 0) (u % 64) ≡ 0 → ⊥))
      (marks : (g : ℕ) → g < 64 → (g ≡ u / 64 → ⊥) → bit_at filled' g ≡ bit_at (get_or filled j 0) g) where
    after_is : column (set words (u / 64 * 16 + j) (turned (get_or (column words j) (u / 64) 0) (u % 64))) j
        ≡ set (column words j) (u / 64) (turned (get_or (column words j) (u / 64) 0) (u % 64))
    after_is = column_set words (u / 64) j (turned (get_or (column words j) (u / 64) 0) (u % 64)) row_listed (omega (arith, stored.few, j_lt))

    others : (i : ℕ) → i < length filled → (i ≡ j → ⊥) → column (set words (u / 64 * 16 + j) (turned (get_or (column words j) (u / 64) 0) (u % 64))) i ≡ column words i
    others i lt ne =
        column_other words (u / 64) j (turned (get_or (column words j) (u / 64) 0) (u % 64)) row_listed (omega (arith, stored.few, j_lt)) i (omega (arith, stored.few, lt)) ne

    set_stored : IsBitSet slots filled' (set (column words j) (u / 64) (turned (get_or (column words j) (u / 64) 0) (u % 64)))
    set_stored =
        stored_after slots (get_or filled j 0) filled' (column words j) u (turned (get_or (column words j) (u / 64) 0) (u % 64)) (not (has (column words j) u)) (stored.sets j j_lt) u_lt
        (turned_here (get_or (column words j) (u / 64) 0) (u % 64) (omega arith)) (λ i i_lt ne. turned_other (get_or (column words j) (u / 64) 0) (u % 64) i (omega arith) ne) mark marks

    set_members : members slots (set (column words j) (u / 64) (turned (get_or (column words j) (u / 64) 0) (u % 64))) ≡ set (members slots (column words j)) u (not (has (column words j) u))
    set_members =
        members_after slots (get_or filled j 0) filled' (column words j) u (turned (get_or (column words j) (u / 64) 0) (u % 64)) (not (has (column words j) u)) (stored.sets j j_lt) u_lt
        (turned_here (get_or (column words j) (u / 64) 0) (u % 64) (omega arith)) (λ i i_lt ne. turned_other (get_or (column words j) (u / 64) 0) (u % 64) i (omega arith) ne) mark marks

    pub flipped_stored : IsSummary slots (set filled j filled') (set words (u / 64 * 16 + j) (turned (get_or (column words j) (u / 64) 0) (u % 64)))
    flipped_stored = record {
      few = omega (arith, stored.few, length-set filled j filled');
      sets = λ i lt. each i (omega (arith, length-set filled j filled', lt)) (cases_eq i j);
    }
      where
        each : (i : ℕ) → i < length filled → (i ≡ j) ⊎ (i ≡ j → ⊥)
            → IsBitSet slots (get_or (set filled j filled') i 0) (column (set words (u / 64 * 16 + j) (turned (get_or (column words j) (u / 64) 0) (u % 64))) i)
        each i lt (inl e) =
            subst (λ n. IsBitSet slots (get_or (set filled j filled') n 0) (column (set words (u / 64 * 16 + j) (turned (get_or (column words j) (u / 64) 0) (u % 64))) n)) (sym e)
            (subst (λ n. IsBitSet slots n (column (set words (u / 64 * 16 + j) (turned (get_or (column words j) (u / 64) 0) (u % 64))) j)) (sym (get_or-set_same filled j filled' 0 j_lt))
            (subst (IsBitSet slots filled') (sym after_is) set_stored))
        each i lt (inr ne) =
            subst (λ n. IsBitSet slots n (column (set words (u / 64 * 16 + j) (turned (get_or (column words j) (u / 64) 0) (u % 64))) i)) (sym (get_or-set_other filled j i filled' 0 ne))
            (subst (IsBitSet slots (get_or filled i 0)) (sym (others i lt ne)) (stored.sets i lt))

    was_in : get_or (get_or (sets_of slots filled words) j []) u false ≡ has (column words j) u
    was_in =
        ap (λ (s : List Bool). get_or s u false) (set_at slots filled words j [] j_lt)
        ∙ get_or-map-range_with_len (has (column words j)) 0 slots u u false u_lt (omega arith)

    pub flipped_sets : sets_of slots (set filled j filled') (set words (u / 64 * 16 + j) (turned (get_or (column words j) (u / 64) 0) (u % 64)))
        ≡ set (sets_of slots filled words) j (flipped (get_or (sets_of slots filled words) j []) u)
    flipped_sets =
        same_lists (sets_of slots (set filled j filled') (set words (u / 64 * 16 + j) (turned (get_or (column words j) (u / 64) 0) (u % 64))))
        (set (sets_of slots filled words) j (flipped (get_or (sets_of slots filled words) j []) u))
        (size_now ∙ sym (length-set (sets_of slots filled words) j (flipped (get_or (sets_of slots filled words) j []) u) ∙ sets_size slots filled words)) (λ i d lt.
        let i_lt : i < length filled = omega (arith, size_now, lt) in
        set_at slots (set filled j filled') (set words (u / 64 * 16 + j) (turned (get_or (column words j) (u / 64) 0) (u % 64))) i d (omega (arith, length-set filled j filled', i_lt))
        ∙ each i d i_lt (cases_eq i j))
      where
        size_now : length (sets_of slots (set filled j filled') (set words (u / 64 * 16 + j) (turned (get_or (column words j) (u / 64) 0) (u % 64)))) ≡ length filled
        size_now =
            sets_size slots (set filled j filled') (set words (u / 64 * 16 + j) (turned (get_or (column words j) (u / 64) 0) (u % 64))) ∙ length-set filled j filled'

        each : (i : ℕ) (d : List Bool) → i < length filled → (i ≡ j) ⊎ (i ≡ j → ⊥)
            → members slots (column (set words (u / 64 * 16 + j) (turned (get_or (column words j) (u / 64) 0) (u % 64))) i)
            ≡ get_or (set (sets_of slots filled words) j (flipped (get_or (sets_of slots filled words) j []) u)) i d
        each i d lt (inl e) =
            ap (λ n. members slots (column (set words (u / 64 * 16 + j) (turned (get_or (column words j) (u / 64) 0) (u % 64))) n)) e
            ∙ ap (members slots) after_is
            ∙ set_members
            ∙ ap (λ b. set (members slots (column words j)) u (not b)) (sym was_in)
            ∙ ap (λ (s : List Bool). set s u (not (get_or (get_or (sets_of slots filled words) j []) u false))) (sym (set_at slots filled words j [] j_lt))
            ∙ sym (ap (λ n. get_or (set (sets_of slots filled words) j (flipped (get_or (sets_of slots filled words) j []) u)) n d) e
            ∙ get_or-set_same (sets_of slots filled words) j (flipped (get_or (sets_of slots filled words) j []) u) d (omega (arith, sets_size slots filled words, j_lt)))
        each i d lt (inr ne) =
            ap (members slots) (others i lt ne)
            ∙ sym (get_or-set_other (sets_of slots filled words) j i (flipped (get_or (sets_of slots filled words) j []) u) d ne ∙ set_at slots filled words i d lt)

  was_filled : (bit_at (get_or filled j 0) (u / 64) ≡ 1) ↔ (get_or (column words j) (u / 64) 0 ≡ 0 → ⊥)
  was_filled = (stored.sets j j_lt).bits (u / 64) row_lt

  module _ (now_fits : turned (get_or (column words j) (u / 64) 0) (u % 64) < 2 ^ 64) where
    fits : get_or (column words j) (u / 64) 0 < 2 ^ 64
    fits = subst (λ n. n < 2 ^ 64) (turned_back (get_or (column words j) (u / 64) 0) (u % 64)) (turned_fits (turned (get_or (column words j) (u / 64) 0) (u % 64)) (u % 64) (omega arith) now_fits)

    -- no other slot is in the word, so its bit in `filled` is turned
    module _ (alone : bit_and (turned (get_or (column words j) (u / 64) 0) (u % 64)) (18446744073709551615 - 1 * 2 ^ (u % 64) % 18446744073709551616) ≡ 0) where
      mark_turned : (bit_at (turned (get_or filled j 0) (u / 64)) (u / 64) ≡ 1) ↔ (turned (get_or (column words j) (u / 64) 0) (u % 64) ≡ 0 → ⊥)
      mark_turned = (
        λ on none. elim (cases_eq (get_or (column words j) (u / 64) 0) 0) [
          | inl zero ↦ from_zero (get_or (column words j) (u / 64) 0) (u % 64) (omega arith) fits alone zero none
          | inr some ↦
              let bit = was_filled.1 some in
              omega (arith, turned_bit (get_or filled j 0) (u / 64) row_lt, on, bit)
        ],
        λ some. elim (cases_eq (bit_at (get_or filled j 0) (u / 64)) 1) [
          | inl on ↦ absurd (some (to_zero (get_or (column words j) (u / 64) 0) (u % 64) (omega arith) fits alone (was_filled.0 on)))
          | inr off ↦ omega (arith, turned_bit (get_or filled j 0) (u / 64) row_lt, bit_at-lt (get_or filled j 0) (u / 64), off)
        ],
      )

      marks_turned : (g : ℕ) → g < 64 → (g ≡ u / 64 → ⊥) → bit_at (turned (get_or filled j 0) (u / 64)) g ≡ bit_at (get_or filled j 0) g
      marks_turned g g_lt ne = turned_other (get_or filled j 0) (u / 64) g row_lt ne

      pub alone_stored : IsSummary slots (set filled j (turned (get_or filled j 0) (u / 64))) (set words (u / 64 * 16 + j) (turned (get_or (column words j) (u / 64) 0) (u % 64)))
      alone_stored = flipped_stored (turned (get_or filled j 0) (u / 64)) mark_turned marks_turned

      pub alone_sets : sets_of slots (set filled j (turned (get_or filled j 0) (u / 64))) (set words (u / 64 * 16 + j) (turned (get_or (column words j) (u / 64) 0) (u % 64)))
          ≡ set (sets_of slots filled words) j (flipped (get_or (sets_of slots filled words) j []) u)
      alone_sets = flipped_sets (turned (get_or filled j 0) (u / 64)) mark_turned marks_turned

    -- another slot is in the word, so `filled` stays
    module _ (others : bit_and (turned (get_or (column words j) (u / 64) 0) (u % 64)) (18446744073709551615 - 1 * 2 ^ (u % 64) % 18446744073709551616) ≡ 0 → ⊥) where
      mark_stays : (bit_at (get_or filled j 0) (u / 64) ≡ 1) ↔ (turned (get_or (column words j) (u / 64) 0) (u % 64) ≡ 0 → ⊥)
      mark_stays =
          let both = both_some (get_or (column words j) (u / 64) 0) (u % 64) (omega arith) fits others in
          (λ _. both.1, λ _. was_filled.1 both.0)

      pub others_stored : IsSummary slots filled (set words (u / 64 * 16 + j) (turned (get_or (column words j) (u / 64) 0) (u % 64)))
      others_stored =
          subst (λ (xs : List ℕ). IsSummary slots xs (set words (u / 64 * 16 + j) (turned (get_or (column words j) (u / 64) 0) (u % 64)))) (set-get_or filled j 0)
          (flipped_stored (get_or filled j 0) mark_stays (λ g g_lt ne. refl))

      pub others_sets : sets_of slots filled (set words (u / 64 * 16 + j) (turned (get_or (column words j) (u / 64) 0) (u % 64)))
          ≡ set (sets_of slots filled words) j (flipped (get_or (sets_of slots filled words) j []) u)
      others_sets =
          ap (λ (xs : List ℕ). sets_of slots xs (set words (u / 64 * 16 + j) (turned (get_or (column words j) (u / 64) 0) (u % 64)))) (sym (set-get_or filled j 0))
          ∙ flipped_sets (get_or filled j 0) mark_stays (λ g g_lt ne. refl)
