use Rattle.std.proofs.Common.{◌+◌, ◌*◌, [], ◌∷◌, take, arith}
use Rattle.std.proofs.lemmas.List.{take_more_set}
use Rattle.quick_core.proofs.DecodeLemmas.{decodes_more}
use Rattle.quick_core.proofs.decode.decode_singly.Goals as goal

pub loop-count-preserved : goal.loop-count-preserved
loop-count-preserved c =
    let count = c.loop-count.count in
    let mid = c.args.from + 2 * count in
    let pair = c.pair_at-pair.result in
    decodes_more c.args.bytes.now c.args.from mid (mid + 2) _ (take count c.loop-count.out) (pair ∷ []) _ (omega arith) (omega arith) (omega arith)
    c.loop-count.invariant (c.pair_at-pair.ensures.decoded (omega arith))
    (take_more_set c.loop-count.out count pair (omega arith))
