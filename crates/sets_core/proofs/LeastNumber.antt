-- The lowest bits of `filled` and of a word give the least number in a set.
use Rattle.std.proofs.Common.{◌≡◌, inl, inr, ◌∙◌, ap, ℕ, ◌+◌, ◌*◌, ◌/◌, ◌%◌, ◌<◌, ◌==◌, List, true, false, Some, None, length, position, get_or, arith}
use Rattle.std.specs.Int.{bit_at}
use Rattle.std.specs.List.{position_or_len}
use Rattle.std.proofs.lemmas.Bool.{cases_eq, cases_lt}
use Rattle.std.proofs.lemmas.Bool.Decides.{nat_tests}
use Rattle.std.proofs.lemmas.List.FromFn.{get_or-map-range_with_len, length-map-range_with_len}
use Rattle.std.proofs.lemmas.List.Sums.{position_or_len_is}
use Rattle.std.proofs.lemmas.Nat.Bits.{bit_at-zero}
use Rattle.std.proofs.Math.ListN.{get_or-eq_default}
use Rattle.sets_core.specs.Members.{has, members, IsBitSet}

module _ (size filled : ℕ) (words : List ℕ) (stored : IsBitSet size filled words) where
  -- a word whose bit in `filled` is 0 has no number of the set
  none_in_word : (w j : ℕ) → w < 64 → bit_at filled w ≡ 0 → bit_at (get_or words w 0) j ≡ 0
  none_in_word w j w_lt off =
      elim (cases_eq (get_or words w 0) 0) [
        | inl none ↦ ap (λ n. bit_at n j) none ∙ bit_at-zero j
        | inr some ↦ absurd (let on = (stored.bits w w_lt).1 some in omega arith)
      ]

  -- a word whose bit in `filled` is 1 is in the list
  pub listed_word : (w : ℕ) → w < 64 → bit_at filled w ≡ 1 → w < length words
  listed_word w w_lt on =
      elim (cases_lt w (length words)) [ inl lt ↦ lt | inr beyond ↦ absurd ((stored.bits w w_lt).0 on (get_or-eq_default words 0 beyond)) ]

  at : (k : ℕ) → k < size → get_or (members size words) k false ≡ has words k
  at k lt = get_or-map-range_with_len (has words) 0 size k k false lt (omega arith)

  words_end : (k : ℕ) → k < size → k / 64 < 64
  words_end k lt = omega (arith, stored.room, stored.few)

  module _ (w t : ℕ) (w_lt : w < 64) (t_lt : t < 64) (on : bit_at filled w ≡ 1) (below : (u : ℕ) → u < w → bit_at filled u ≡ 0)
      (bit : bit_at (get_or words w 0) t ≡ 1) (lower : (j : ℕ) → j < t → bit_at (get_or words w 0) j ≡ 0) where
    is_in : has words (w * 64 + t) ≡ true
    is_in =
        let word : (w * 64 + t) / 64 ≡ w = omega arith in
        let place : (w * 64 + t) % 64 ≡ t = omega arith in
        ap (λ n. bit_at (get_or words n 0) ((w * 64 + t) % 64) == 1) word ∙ ap (λ n. bit_at (get_or words w 0) n == 1) place ∙ ap (λ n. n == 1) bit

    pub least_lt : w * 64 + t < size
    least_lt = stored.below (w * 64 + t) is_in

    not_below : (k : ℕ) → k < w * 64 + t → has words k ≡ false
    not_below k lt =
        ap (λ n. n == 1) (elim (cases_eq (k / 64) w) [
          | inl e ↦ ap (λ n. bit_at (get_or words n 0) (k % 64)) e ∙ lower (k % 64) (omega arith)
          | inr ne ↦ none_in_word (k / 64) (k % 64) (omega arith) (below (k / 64) (omega arith))
        ])

    pub least_is : position (λ b. b) (members size words) ≡ Some (w * 64 + t)
    least_is =
        let all = length-map-range_with_len (has words) 0 size in
        let lt : w * 64 + t < length (members size words) = omega (arith, all, least_lt) in
        let found : position_or_len (λ b. b) (members size words) ≡ w * 64 + t
        = position_or_len_is (λ b. b) (members size words) (w * 64 + t) false (omega (arith, lt)) (λ k k_lt. at k (omega (arith, least_lt)) ∙ not_below k k_lt) (λ _. at (w * 64 + t) least_lt ∙ is_in) in
        grind (arith, nat_tests, found, lt)

  pub none_is : filled ≡ 0 → position (λ b. b) (members size words) ≡ None
  none_is zero =
      let all = length-map-range_with_len (has words) 0 size in
      let found : position_or_len (λ b. b) (members size words) ≡ length (members size words)
      = position_or_len_is (λ b. b) (members size words) (length (members size words)) false (omega arith)
      (λ k k_lt.
      let lt : k < size = omega (arith, all) in
      at k lt ∙ ap (λ n. n == 1) (none_in_word (k / 64) (k % 64) (words_end k lt) (ap (λ n. bit_at n (k / 64)) zero ∙ bit_at-zero (k / 64)))) (λ lt. absurd (omega arith)) in
      grind (arith, nat_tests, found)
