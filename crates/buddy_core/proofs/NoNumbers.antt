-- The words of a set that has no number.
use Rattle.std.proofs.Common.{◌≡◌, sym, ◌∙◌, ap, ℕ, ◌+◌, ◌-◌, ◌/◌, ◌%◌, ◌<◌, ◌≤◌, ◌==◌, false, replicate, get_or, inl, inr, arith}
use Rattle.std.specs.Int.{bit_at}
use Rattle.std.proofs.lemmas.Bool.{cases_lt}
use Rattle.std.proofs.lemmas.List.{get_or-replicate, length-replicate, same_lists}
use Rattle.std.proofs.lemmas.List.FromFn.{get_or-map-range_with_len, length-map-range_with_len}
use Rattle.std.proofs.lemmas.Nat.Bits.{bit_at-zero}
use Rattle.std.proofs.Math.ListN.{get_or-eq_default}
use Rattle.sets_core.specs.Members.{has, members, IsBitSet}

module _ (size count : ℕ) (rounded : count ≡ (size + 64 - 1) / 64) (few : size ≤ 4096) where
  word_is : (w : ℕ) → get_or (replicate {A = ℕ} count 0) w 0 ≡ 0
  word_is w =
      elim (cases_lt w count) [
        | inl lt ↦ get_or-replicate count w 0 0 lt
        | inr past ↦ get_or-eq_default (replicate {A = ℕ} count 0) 0 (let size = length-replicate {A = ℕ} count 0 in omega arith)
      ]

  not_in : (i : ℕ) → has (replicate {A = ℕ} count 0) i ≡ false
  not_in i = ap (λ n. bit_at n (i % 64) == 1) (word_is (i / 64)) ∙ ap (λ n. n == 1) (bit_at-zero (i % 64))

  pub none_stored : IsBitSet size 0 (replicate {A = ℕ} count 0)
  none_stored = record {
    room = let all = length-replicate {A = ℕ} count 0 in omega arith;
    few = let all = length-replicate {A = ℕ} count 0 in omega arith;
    below = λ i is_in. absurd (let off = sym is_in ∙ not_in i in cc);
    bits = λ w lt. (λ bit. absurd (let off = bit_at-zero w in omega arith), λ some. absurd (some (word_is w)));
  }

  pub none_members : members size (replicate {A = ℕ} count 0) ≡ replicate size false
  none_members =
      same_lists (members size (replicate {A = ℕ} count 0)) (replicate size false) (length-map-range_with_len (has (replicate {A = ℕ} count 0)) 0 size ∙ sym (length-replicate size false)) (λ k d lt.
      let k_lt : k < size = omega (arith, length-map-range_with_len (has (replicate {A = ℕ} count 0)) 0 size) in
      get_or-map-range_with_len (has (replicate {A = ℕ} count 0)) 0 size k k d k_lt (omega arith) ∙ not_in k ∙ sym (get_or-replicate size k false d k_lt))
