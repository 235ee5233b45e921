-- The words of a set that has all numbers below its size.
use Rattle.std.proofs.Common.{◌≡◌, ◌↔◌, inl, inr, sym, ◌∙◌, ap, ℕ, ◌+◌, ◌-◌, ◌*◌, ◌/◌, ◌%◌, ◌^◌, ◌<◌, ◌≤◌, ◌==◌, min, List, true, false, length, replicate, get_or, arith}
use Rattle.std.specs.Int.{bit_at}
use Rattle.std.proofs.lemmas.Bool.{cases_lt}
use Rattle.std.proofs.lemmas.List.{get_or-replicate, length-replicate, same_lists}
use Rattle.std.proofs.lemmas.List.FromFn.{get_or-map-range_with_len, length-map-range_with_len}
use Rattle.std.proofs.lemmas.Nat.Bits.{bit_at_ones, bit_at_ones_above, bit_at-zero}
use Rattle.std.proofs.Math.ListN.{get_or-eq_default}
use Rattle.sets_core.specs.Members.{has, members, IsBitSet}

module _ (size count : ℕ) (words : List ℕ) (rounded : count ≡ (size + 64 - 1) / 64) (few : size ≤ 4096) (all : length words ≡ count)
    (each : (w : ℕ) → w < count → get_or words w 0 ≡ 2 ^ min (size - w * 64) 64 - 1) where
  pub in_set : (i : ℕ) → i < size → has words i ≡ true
  in_set i lt =
      ap (λ n. bit_at n (i % 64) == 1) (each (i / 64) (omega arith))
      ∙ ap (λ n. n == 1) (bit_at_ones (min (size - i / 64 * 64) 64) (i % 64) (omega arith))

  past : (i : ℕ) → size ≤ i → has words i ≡ false
  past i le =
      ap (λ n. n == 1) (elim (cases_lt (i / 64) count) [
        | inl lt ↦ ap (λ n. bit_at n (i % 64)) (each (i / 64) lt) ∙ bit_at_ones_above (min (size - i / 64 * 64) 64) (i % 64) (omega arith)
        | inr beyond ↦ ap (λ n. bit_at n (i % 64)) (get_or-eq_default words 0 (omega arith)) ∙ bit_at-zero (i % 64)
      ])

  bits : (w : ℕ) → w < 64 → (bit_at (2 ^ count - 1) w ≡ 1) ↔ (get_or words w 0 ≡ 0 → ⊥)
  bits w w_lt =
      elim (cases_lt w count) [
        | inl lt ↦
            let first : bit_at (get_or words w 0) 0 ≡ 1 = ap (λ n. bit_at n 0) (each w lt) ∙ bit_at_ones (min (size - w * 64) 64) 0 (omega arith) in
            (λ _ none. (let off = sym first ∙ ap (λ n. bit_at n 0) none ∙ bit_at-zero 0 in omega arith), λ _. bit_at_ones count w lt)
        | inr beyond ↦
            let none : get_or words w 0 ≡ 0 = get_or-eq_default words 0 (omega arith) in
            (λ bit. absurd (let off = bit_at_ones_above count w beyond in omega arith), λ some. absurd (some none))
      ]

  pub all_stored : IsBitSet size (2 ^ count - 1) words
  all_stored = record {
    room = omega arith;
    few = omega arith;
    below = λ i is_in. elim (cases_lt i size) [ inl lt ↦ lt | inr le ↦ absurd (let off = sym is_in ∙ past i le in cc) ];
    bits = bits;
  }

  pub all_members : members size words ≡ replicate size true
  all_members =
      same_lists (members size words) (replicate size true) (length-map-range_with_len (has words) 0 size ∙ sym (length-replicate size true)) (λ k d lt.
      let k_lt : k < size = omega (arith, length-map-range_with_len (has words) 0 size) in
      get_or-map-range_with_len (has words) 0 size k k d k_lt (omega arith) ∙ in_set k k_lt ∙ sym (get_or-replicate size k true d k_lt))
