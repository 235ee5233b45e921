-- The search for a vacant block stops at the first block that is vacant.
use Rattle.std.proofs.Common.{◌≡◌, ℕ, ◌+◌, ◌*◌, ◌^◌, ◌<◌, ◌≤◌, true, false, get_or, drop, take, map, List, [], ◌∷◌, ◌++◌, length, Option, Some, None, refl, sym, ap, ◌∙◌, arith, take-append-drop}
use Rattle.std.specs.Prelude.{Bool, find, if◌then◌else◌}
use Rattle.std.specs.List.{range_with_len}
use Rattle.std.specs.Option.{option_or}
use Rattle.std.proofs.lemmas.List.{at_drop_more}
use Rattle.std.proofs.lemmas.List.Folds.{find-append}
use Rattle.std.proofs.lemmas.List.FromFn.{map-range_with_len_more, take-map-range_with_len}
use Rattle.model_core.specs.Blocks.{Block, block}
use Rattle.promise_core.specs.Holdings.{Holdings, blocks_of_slot, is_vacant}
use Rattle.reply_judge.specs.Vacancy.{vacant_in}

-- the first vacant one of the n aligned blocks of order k that begin with block number `begin`
abbrev pub first_vacant : Holdings → ℕ → ℕ → ℕ → Option Block
first_vacant h k begin n = find (is_vacant h) (map (λ i. block (i * 2 ^ k) k) (range_with_len begin n))

module _ (h : Holdings) (k begin i : ℕ) where
  one_more : first_vacant h k begin (i + 1) ≡ option_or (first_vacant h k begin i) (find (is_vacant h) (block ((begin + i) * 2 ^ k) k ∷ []))
  one_more = ap (find (is_vacant h)) (map-range_with_len_more (λ i. block (i * 2 ^ k) k) begin i (begin + i) refl)
      ∙ find-append (is_vacant h) (map (λ i. block (i * 2 ^ k) k) (range_with_len begin i)) (block ((begin + i) * 2 ^ k) k ∷ [])

  next_is : (vacant : Bool) → is_vacant h (block ((begin + i) * 2 ^ k) k) ≡ vacant → first_vacant h k begin i ≡ None
      → first_vacant h k begin (i + 1) ≡ (if vacant then Some (block ((begin + i) * 2 ^ k) k) else None)
  next_is vacant is none = one_more ∙ ap (λ o. option_or o (find (is_vacant h) (block ((begin + i) * 2 ^ k) k ∷ []))) none
      ∙ ap (λ b. if b then Some (block ((begin + i) * 2 ^ k) k) else None) is

  pub none_yet : is_vacant h (block ((begin + i) * 2 ^ k) k) ≡ false → first_vacant h k begin i ≡ None → first_vacant h k begin (i + 1) ≡ None
  none_yet is none = next_is false is none

  pub found_here : (n : ℕ) → i < n → is_vacant h (block ((begin + i) * 2 ^ k) k) ≡ true → first_vacant h k begin i ≡ None
      → first_vacant h k begin n ≡ Some (block ((begin + i) * 2 ^ k) k)
  found_here n lt is none =
      let all : List Block = map (λ i. block (i * 2 ^ k) k) (range_with_len begin n) in
      ap (find (is_vacant h)) (sym (take-append-drop (i + 1) all))
      ∙ find-append (is_vacant h) (take (i + 1) all) (drop (i + 1) all)
      ∙ ap (λ o. option_or o (find (is_vacant h) (drop (i + 1) all)))
      (ap (find (is_vacant h)) (take-map-range_with_len (λ i. block (i * 2 ^ k) k) begin n (i + 1) (omega (arith, lt))) ∙ next_is true is none)

module _ (order : ℕ) (h : Holdings) (k i slot : ℕ) (slots : List ℕ) (lt : i < length slots) (is : slot ≡ get_or slots i slot) where
  turn : vacant_in order h k (drop i slots) ≡ option_or (find (is_vacant h) (blocks_of_slot order k slot)) (vacant_in order h k (drop (i + 1) slots))
  turn = at_drop_more (vacant_in order h k) slots i slot lt ∙ ap (λ u. vacant_in order h k (u ∷ drop (i + 1) slots)) (sym is)

  pub in_slot : (b : Block) → find (is_vacant h) (blocks_of_slot order k slot) ≡ Some b → vacant_in order h k (drop i slots) ≡ Some b
  in_slot b found = turn ∙ ap (λ o. option_or o (vacant_in order h k (drop (i + 1) slots))) found

  pub not_in_slot : find (is_vacant h) (blocks_of_slot order k slot) ≡ None → vacant_in order h k (drop i slots) ≡ vacant_in order h k (drop (i + 1) slots)
  not_in_slot none = turn ∙ ap (λ o. option_or o (vacant_in order h k (drop (i + 1) slots))) none
