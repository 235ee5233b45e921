use Rattle.std.proofs.Common.{◌≡◌, sym, ◌∙◌, ap, subst, ℕ, ◌+◌, ◌*◌, ◌/◌, ◌<◌, List, [], Some, None, length, get_or, position, w64, arith}
use Rattle.std.specs.Int.{bit_at}
use Rattle.std.specs.Int.Count.{count_trailing_zeros}
use Rattle.std.proofs.lemmas.List.{get_or_read}
use Rattle.std.proofs.lemmas.Nat.Bits.{bit_at-trailing_zeros}
use Rattle.sets_core.specs.Members.{IsBitSet}
use Rattle.sets_core.proofs.LeastNumber.{listed_word, least_is, none_is}
use Rattle.buddy_core.specs.SummaryWords.{column, sets_of, IsSummary}
use Rattle.buddy_core.proofs.SummaryColumns.{column_size, column_at}
use Rattle.buddy_core.proofs.SetFlipped.{order_lt, set_at}
use Rattle.buddy_core.proofs.summaries.Summary.first.Goals as goal

module _ (slots : ℕ) (filled words : List ℕ) (stored : IsSummary slots filled words) (j f : ℕ) (lt : j < length filled) (is : f ≡ get_or filled j 0) where
  pub none : f ≡ 0 → position (λ b. b) (get_or (sets_of slots filled words) j []) ≡ None
  none zero = ap (position (λ b. b)) (set_at slots filled words j [] lt) ∙ none_is slots (get_or filled j 0) (column words j) (stored.sets j lt) (sym is ∙ zero)

  module _ (some : f ≡ 0 → ⊥) (fits : f < 18446744073709551616) where
    set_here : IsBitSet slots f (column words j)
    set_here = subst (λ n. IsBitSet slots n (column words j)) (sym is) (stored.sets j lt)

    pub row_listed : count_trailing_zeros 64 f < length words / 16
    row_listed =
        let low = bit_at-trailing_zeros w64 f (omega (arith, some)) fits in
        let listed = listed_word slots f (column words j) set_here (count_trailing_zeros 64 f) low.0 low.1 in
        omega (arith, column_size words j, listed)

    pub first_is : (w : ℕ) → w ≡ get_or words (count_trailing_zeros 64 f * 16 + j) 0 → w < 18446744073709551616
        → position (λ b. b) (get_or (sets_of slots filled words) j []) ≡ Some (count_trailing_zeros 64 f * 64 + count_trailing_zeros 64 w)
    first_is w word w_fits =
        let here : w ≡ get_or (column words j) (count_trailing_zeros 64 f) 0 = word ∙ sym (column_at words j (count_trailing_zeros 64 f) 0 row_listed) in
        let low = bit_at-trailing_zeros w64 f (omega (arith, some)) fits in
        let not_zero : w ≡ 0 → ⊥ = λ zero. (set_here.bits (count_trailing_zeros 64 f) low.0).0 low.1 (sym here ∙ zero) in
        let lowest = bit_at-trailing_zeros w64 w (omega (arith, not_zero)) w_fits in
        ap (position (λ b. b)) (set_at slots filled words j [] lt)
        ∙ least_is slots f (column words j) set_here (count_trailing_zeros 64 f) (count_trailing_zeros 64 w) low.0 lowest.0 low.1 low.2 (ap (λ n. bit_at n (count_trailing_zeros 64 w)) (sym here) ∙ lowest.1)
        (λ i i_lt. ap (λ n. bit_at n i) (sym here) ∙ lowest.2 i i_lt)

pub index-filled-requires : goal.index-filled-requires
index-filled-requires c =
    let slots = c.self.inside.slots in
    let words = c.self.inside.words.items in
    let filled = c.self.inside.filled.items in
    let lt = order_lt slots filled words c.args.order (rw (← c.self.view_is) at c.requires) in
    omega (arith, c.from.ensures, lt)

pub returns-then-filled-eq0 : goal.returns-then-filled-eq0
returns-then-filled-eq0 c =
    let slots = c.self.inside.slots in
    let words = c.self.inside.words.items in
    let filled = c.self.inside.filled.items in
    let lt = order_lt slots filled words c.args.order (rw (← c.self.view_is) at c.requires) in
    let read : c.index-filled.result.now ≡ get_or filled c.args.order 0
    = get_or_read filled c.from.result c.index-filled.result.now (omega (arith, c.from.ensures, lt)) c.index-filled.ensures 0 ∙ ap (λ n. get_or filled n 0) c.from.ensures in
    rw (← c.self.view_is) (sym (none slots filled words c.self.invariant c.args.order c.index-filled.result.now lt read c.if-filled-eq0.true))

pub index-word-requires : goal.index-word-requires
index-word-requires c =
    let slots = c.self.inside.slots in
    let words = c.self.inside.words.items in
    let filled = c.self.inside.filled.items in
    let lt = order_lt slots filled words c.args.order (rw (← c.self.view_is) at c.requires) in
    let read : c.index-filled.result.now ≡ get_or filled c.args.order 0
    = get_or_read filled c.from.result c.index-filled.result.now (omega (arith, c.from.ensures, lt)) c.index-filled.ensures 0 ∙ ap (λ n. get_or filled n 0) c.from.ensures in
    let listed = row_listed slots filled words c.self.invariant c.args.order c.index-filled.result.now lt read c.if-filled-eq0.false (omega arith) in
    omega (arith, c.from-2.ensures, listed, c.self.invariant.few, lt)

pub returns : goal.returns
returns c =
    let slots = c.self.inside.slots in
    let words = c.self.inside.words.items in
    let filled = c.self.inside.filled.items in
    let lt = order_lt slots filled words c.args.order (rw (← c.self.view_is) at c.requires) in
    let read : c.index-filled.result.now ≡ get_or filled c.args.order 0
    = get_or_read filled c.from.result c.index-filled.result.now (omega (arith, c.from.ensures, lt)) c.index-filled.ensures 0 ∙ ap (λ n. get_or filled n 0) c.from.ensures in
    let row = count_trailing_zeros 64 c.index-filled.result.now in
    let listed = row_listed slots filled words c.self.invariant c.args.order c.index-filled.result.now lt read c.if-filled-eq0.false (omega arith) in
    let word : c.index-word.result.now ≡ get_or words (row * 16 + c.args.order) 0
    = get_or_read words (row * 16 + c.from-2.result) c.index-word.result.now (omega (arith, c.from-2.ensures, listed, c.self.invariant.few, lt)) c.index-word.ensures 0
    ∙ ap (λ n. get_or words (row * 16 + n) 0) c.from-2.ensures in
    rw (← c.self.view_is, c.from-3.ensures)
    (sym (first_is slots filled words c.self.invariant c.args.order c.index-filled.result.now lt read c.if-filled-eq0.false (omega arith) c.index-word.result.now word (omega arith)))
