use Rattle.std.proofs.Common.{◌≡◌, sym, ◌+◌, ◌-◌, ◌/◌, arith}
use Rattle.sets_core.proofs.AllNumbers.{all_stored, all_members}
use Rattle.sets_core.proofs.BitSet.full.Goals as goal

pub invariant_of-result : goal.invariant_of-result
invariant_of-result c =
    let words = c.loop-word.words.items in
    let count : c.loop-word.word ≡ (c.args.size + 64 - 1) / 64 = omega arith in
    let stored = all_stored c.args.size c.loop-word.word words count c.requires c.loop-word.invariant.0 c.loop-word.invariant.1 in
    rw (c.ones-filled.ensures, sym count) stored

pub returns : goal.returns
returns c =
    let words = c.loop-word.words.items in
    let count : c.loop-word.word ≡ (c.args.size + 64 - 1) / 64 = omega arith in
    all_members c.args.size c.loop-word.word words count c.requires c.loop-word.invariant.0 c.loop-word.invariant.1
