use Rattle.std.proofs.Common.{◌≡◌, ◌*◌, ◌<◌, length, sym, subst, arith, rules}
use Rattle.slab_core.proofs.FirstClearBit.{IsClear, AreOnes, clear_word, ones_more, ones_full, clear_there, full_by_ones}
use Rattle.slab_core.proofs.taking.first_clear.Goals as goal
use Rattle.slab_core.proofs.taking.first_clear.Goals.{After-trailing_ones}

-- the bit that was found is the first clear bit of the word, and its index is below 64
found : (c : After-trailing_ones) → (c.trailing_ones.result < 64) × IsClear 64 c.eight_at-word.result c.trailing_ones.result
found c =
    subst (λ k. (k < 64) × IsClear 64 c.eight_at-word.result k) (sym c.trailing_ones.ensures) (clear_word c.eight_at-word.result (search rules) c.if-word.true)

pub returns-then-word-clause-ones : goal.returns-then-word-clause-ones
returns-then-word-clause-ones c =
    let is = (found (goal.at.returns-then-word-clause-ones c).After-trailing_ones).1 in
    ones_more c.args.bytes.now c.loop-i.i c.eight_at-word.result c.trailing_ones.result c.loop-i.invariant c.eight_at-word.ensures is.below is.ones

pub returns-then-word-clause-clear : goal.returns-then-word-clause-clear
returns-then-word-clause-clear c =
    let f = found (goal.at.returns-then-word-clause-clear c).After-trailing_ones in
    clear_there c.args.bytes.now c.loop-i.i c.eight_at-word.result c.trailing_ones.result c.eight_at-word.ensures f.0 f.1

pub loop-i-preserved : goal.loop-i-preserved
loop-i-preserved c = ones_full c.args.bytes.now c.loop-i.i c.eight_at-word.result c.loop-i.invariant c.eight_at-word.ensures c.if-word.false

pub unreachable-requires : goal.unreachable-requires
unreachable-requires c =
    let all : 64 * c.loop-i.i ≡ 8 * length c.args.bytes.now = omega arith in
    c.requires.clear.clear (full_by_ones c.args.bytes.now c.requires.clear.at (subst (AreOnes c.args.bytes.now) all c.loop-i.invariant) c.requires.clear.within (search rules))
