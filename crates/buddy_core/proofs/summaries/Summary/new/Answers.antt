use Rattle.std.proofs.Common.{◌≡◌, ◌∙◌, ap, subst, sym, ℕ, ◌+◌, ◌-◌, ◌*◌, ◌/◌, ◌<◌, ◌≤◌, false, length, replicate, arith}
use Rattle.std.proofs.lemmas.List.{get_or-replicate, length-replicate, same_lists}
use Rattle.sets_core.specs.Members.{members, IsBitSet}
use Rattle.buddy_core.proofs.NoNumbers.{none_stored, none_members}
use Rattle.buddy_core.specs.SummaryWords.{column, sets_of, IsSummary}
use Rattle.buddy_core.proofs.SummaryColumns.{column_zero}
use Rattle.buddy_core.proofs.SetFlipped.{sets_size, set_at}
use Rattle.buddy_core.proofs.summaries.Summary.new.Goals as goal

-- a summary whose words are all 0 has no slot in any set
module _ (orders slots rows : ℕ) (few : orders ≤ 16) (small : slots ≤ 4096) (rounded : rows ≡ (slots + 64 - 1) / 64) where
  empty_stored : IsSummary slots (replicate orders 0) (replicate (rows * 16) 0)
  empty_stored = record {
    few = let size = length-replicate {A = ℕ} orders 0 in omega (arith, size, few);
    sets = λ j lt.
        let j_lt : j < orders = (let size = length-replicate {A = ℕ} orders 0 in omega (arith, size, lt)) in
        subst (λ n. IsBitSet slots n (column (replicate (rows * 16) 0) j)) (sym (get_or-replicate {A = ℕ} orders j 0 0 j_lt))
        (subst (IsBitSet slots 0) (sym (column_zero rows j (omega (arith, few, j_lt)))) (none_stored slots rows rounded small));
  }

  empty_sets : sets_of slots (replicate orders 0) (replicate (rows * 16) 0) ≡ replicate orders (replicate slots false)
  empty_sets =
      same_lists (sets_of slots (replicate orders 0) (replicate (rows * 16) 0)) (replicate orders (replicate slots false))
      (size ∙ sym (length-replicate orders (replicate slots false))) (λ j d lt.
      let j_lt : j < orders = omega (arith, size, lt) in
      let all = length-replicate {A = ℕ} orders 0 in
      set_at slots (replicate orders 0) (replicate (rows * 16) 0) j d (omega (arith, all, j_lt))
      ∙ ap (members slots) (column_zero rows j (omega (arith, few, j_lt)))
      ∙ none_members slots rows rounded small
      ∙ sym (get_or-replicate orders j (replicate slots false) d j_lt))
    where
      size : length (sets_of slots (replicate orders 0) (replicate (rows * 16) 0)) ≡ orders
      size = sets_size slots (replicate orders 0) (replicate (rows * 16) 0) ∙ length-replicate {A = ℕ} orders 0

pub invariant_of-result : goal.invariant_of-result
invariant_of-result c =
    let filled = c.in_ok-filled.ensures.items_if_clones_equal (λ _ e. e) in
    let words = c.in_ok-words.ensures.items_if_clones_equal (λ _ e. e) in
    subst (λ xs. IsSummary c.args.superblocks xs c.in_ok-words.words.items) (sym filled)
    (subst (IsSummary c.args.superblocks (replicate (c.from.result + 1) 0)) (sym words)
    (empty_stored (c.from.result + 1) c.args.superblocks c.from-rows.result (omega (arith, c.from.ensures)) (omega arith) c.from-rows.ensures))

pub returns : goal.returns
returns c =
    let filled = c.in_ok-filled.ensures.items_if_clones_equal (λ _ e. e) in
    let words = c.in_ok-words.ensures.items_if_clones_equal (λ _ e. e) in
    ap (λ xs. sets_of c.args.superblocks xs c.in_ok-words.words.items) filled
    ∙ ap (sets_of c.args.superblocks (replicate (c.from.result + 1) 0)) words
    ∙ empty_sets (c.from.result + 1) c.args.superblocks c.from-rows.result (omega (arith, c.from.ensures)) (omega arith) c.from-rows.ensures
    ∙ ap (λ n. replicate (n + 1) (replicate c.args.superblocks false)) c.from.ensures
