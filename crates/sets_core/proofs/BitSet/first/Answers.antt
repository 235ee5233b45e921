use Rattle.std.proofs.Common.{◌≡◌, sym, arith, w64, get_or}
use Rattle.std.specs.Int.Count.{count_trailing_zeros}
use Rattle.std.proofs.lemmas.List.{get_or_read}
use Rattle.std.proofs.lemmas.List.FromFn.{length-map-range_with_len}
use Rattle.std.proofs.lemmas.Nat.Bits.{bit_at-trailing_zeros}
use Rattle.sets_core.specs.Members.{has}
use Rattle.sets_core.proofs.LeastNumber.{listed_word, least_is, least_lt, none_is}
use Rattle.sets_core.proofs.BitSet.first.Goals as goal

pub returns-then-self-eq0-clause-value : goal.returns-then-self-eq0-clause-value
returns-then-self-eq0-clause-value c =
    rw (← c.self.view_is) (sym (none_is c.self.inside.size c.self.inside.filled c.self.inside.words.items c.self.invariant c.if-self-eq0.true))

pub index-requires : goal.index-requires
index-requires c =
    let low = bit_at-trailing_zeros w64 c.self.inside.filled (omega arith) (omega arith) in
    let listed = listed_word c.self.inside.size c.self.inside.filled c.self.inside.words.items c.self.invariant (count_trailing_zeros 64 c.self.inside.filled) low.0 low.1 in
    omega (arith, listed)

pub returns-clause-value : goal.returns-clause-value
returns-clause-value c =
    let words = c.self.inside.words.items in
    let w = count_trailing_zeros 64 c.self.inside.filled in
    let low = bit_at-trailing_zeros w64 c.self.inside.filled (omega arith) (omega arith) in
    let listed = listed_word c.self.inside.size c.self.inside.filled words c.self.invariant w low.0 low.1 in
    let word = get_or_read words w c.index.result.now listed c.index.ensures 0 in
    let some : get_or words w 0 ≡ 0 → ⊥ = (c.self.invariant.bits w low.0).0 low.1 in
    let lowest = bit_at-trailing_zeros w64 (get_or words w 0) (omega (arith, some)) (omega (arith, word)) in
    rw (← c.self.view_is, word, c.from.ensures)
    (sym (least_is c.self.inside.size c.self.inside.filled words c.self.invariant w (count_trailing_zeros 64 (get_or words w 0)) low.0 lowest.0 low.1 low.2 lowest.1 lowest.2))

pub returns-clause-below : goal.returns-clause-below
returns-clause-below c =
    let words = c.self.inside.words.items in
    let w = count_trailing_zeros 64 c.self.inside.filled in
    let low = bit_at-trailing_zeros w64 c.self.inside.filled (omega arith) (omega arith) in
    let listed = listed_word c.self.inside.size c.self.inside.filled words c.self.invariant w low.0 low.1 in
    let word = get_or_read words w c.index.result.now listed c.index.ensures 0 in
    let some : get_or words w 0 ≡ 0 → ⊥ = (c.self.invariant.bits w low.0).0 low.1 in
    let lowest = bit_at-trailing_zeros w64 (get_or words w 0) (omega (arith, some)) (omega (arith, word)) in
    let lt = least_lt c.self.inside.size c.self.inside.filled words c.self.invariant w (count_trailing_zeros 64 (get_or words w 0)) low.0 lowest.0 low.1 low.2 lowest.1 lowest.2 in
    rw (← c.self.view_is, word, c.from.ensures) (omega (arith, lt, length-map-range_with_len (has words) 0 c.self.inside.size))
