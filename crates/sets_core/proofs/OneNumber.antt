-- Which numbers are in a set after one bit of its words changes.
use Rattle.std.proofs.Common.{◌≡◌, ◌↔◌, inl, inr, sym, ◌∙◌, ap, ℕ, ◌/◌, ◌%◌, ◌<◌, ◌==◌, List, Bool, length, get_or, set, length-set, arith}
use Rattle.std.specs.Int.{bit_at}
use Rattle.std.proofs.lemmas.Bool.{cases_eq}
use Rattle.std.proofs.lemmas.List.{get_or-set_same, get_or-set_other, same_lists}
use Rattle.std.proofs.lemmas.List.FromFn.{get_or-map-range_with_len, length-map-range_with_len}
use Rattle.sets_core.specs.Members.{has, members, IsBitSet}

-- Word i / 64 becomes v, which differs from the word before at most in the bit of number i, and `filled'` says whether v is 0.
module _ (size filled filled' : ℕ) (words : List ℕ) (i v : ℕ) (b : Bool) (stored : IsBitSet size filled words) (i_lt : i < size)
    (here : (bit_at v (i % 64) == 1) ≡ b) (elsewhere : (j : ℕ) → j < 64 → (j ≡ i % 64 → ⊥) → bit_at v j ≡ bit_at (get_or words (i / 64) 0) j)
    (mark : (bit_at filled' (i / 64) ≡ 1) ↔ (v ≡ 0 → ⊥)) (marks : (w : ℕ) → w < 64 → (w ≡ i / 64 → ⊥) → bit_at filled' w ≡ bit_at filled w) where
  inside : i / 64 < length words
  inside = omega (arith, stored.room)

  at_number : has (set words (i / 64) v) i ≡ b
  at_number = ap (λ n. bit_at n (i % 64) == 1) (get_or-set_same words (i / 64) v 0 inside) ∙ here

  at_others : (j : ℕ) → (j ≡ i → ⊥) → has (set words (i / 64) v) j ≡ has words j
  at_others j ne =
      elim (cases_eq (j / 64) (i / 64)) [
        | inl e ↦
            ap (λ n. bit_at (get_or (set words (i / 64) v) n 0) (j % 64) == 1) e
            ∙ ap (λ n. bit_at n (j % 64) == 1) (get_or-set_same words (i / 64) v 0 inside)
            ∙ ap (λ n. n == 1) (elsewhere (j % 64) (omega arith) (λ same. ne (omega arith)))
            ∙ ap (λ n. bit_at (get_or words n 0) (j % 64) == 1) (sym e)
        | inr off ↦ ap (λ n. bit_at n (j % 64) == 1) (get_or-set_other words (i / 64) (j / 64) v 0 off)
      ]

  bits_after : (w : ℕ) → w < 64 → (bit_at filled' w ≡ 1) ↔ (get_or (set words (i / 64) v) w 0 ≡ 0 → ⊥)
  bits_after w w_lt =
      elim (cases_eq w (i / 64)) [
        | inl e ↦
            let now : get_or (set words (i / 64) v) w 0 ≡ v = ap (λ n. get_or (set words (i / 64) v) n 0) e ∙ get_or-set_same words (i / 64) v 0 inside in
            (λ bit none. mark.0 (ap (bit_at filled') (sym e) ∙ bit) (sym now ∙ none), λ some. ap (bit_at filled') e ∙ mark.1 (λ none. some (now ∙ none)))
        | inr off ↦
            let now : get_or (set words (i / 64) v) w 0 ≡ get_or words w 0 = get_or-set_other words (i / 64) w v 0 off in (
              λ bit none. (stored.bits w w_lt).0 (sym (marks w w_lt off) ∙ bit) (sym now ∙ none),
              λ some. marks w w_lt off ∙ (stored.bits w w_lt).1 (λ none. some (now ∙ none)),
            )
      ]

  pub stored_after : IsBitSet size filled' (set words (i / 64) v)
  stored_after = record {
    room = omega (arith, stored.room, length-set words (i / 64) v);
    few = omega (arith, stored.few, length-set words (i / 64) v);
    below = λ j is_in. elim (cases_eq j i) [ inl e ↦ omega arith | inr ne ↦ stored.below j (sym (at_others j ne) ∙ is_in) ];
    bits = bits_after;
  }

  i_listed : i < length (members size words)
  i_listed = omega (arith, length-map-range_with_len (has words) 0 size)

  pub members_after : members size (set words (i / 64) v) ≡ set (members size words) i b
  members_after =
      same_lists (members size (set words (i / 64) v)) (set (members size words) i b)
      (length-map-range_with_len (has (set words (i / 64) v)) 0 size ∙ sym (length-set (members size words) i b ∙ length-map-range_with_len (has words) 0 size)) (λ k d lt.
      let k_lt : k < size = omega (arith, length-map-range_with_len (has (set words (i / 64) v)) 0 size) in
      get_or-map-range_with_len (has (set words (i / 64) v)) 0 size k k d k_lt (omega arith)
      ∙ elim (cases_eq k i) [
        | inl e ↦ ap (has (set words (i / 64) v)) e ∙ at_number ∙ sym (ap (λ n. get_or (set (members size words) i b) n d) e ∙ get_or-set_same (members size words) i b d i_listed)
        | inr ne ↦ at_others k ne ∙ sym (get_or-set_other (members size words) i k b d ne ∙ get_or-map-range_with_len (has words) 0 size k k d k_lt (omega arith))
      ])
