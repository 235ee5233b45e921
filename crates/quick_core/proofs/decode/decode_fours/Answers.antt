use Rattle.std.proofs.Common.{◌+◌, ◌*◌, ◌∙◌, ap, take, arith}
use Rattle.quick_core.proofs.DecodeLemmas.{decodes_none, decodes_more}
use Rattle.quick_core.proofs.decode.decode_fours.Goals as goal

pub loop-fours-init : goal.loop-fours-init
loop-fours-init c = decodes_none c.args.bytes.now c.args.from _ (omega arith)

pub loop-fours-preserved : goal.loop-fours-preserved
loop-fours-preserved c =
    let done = 4 * c.loop-fours.fours in
    let mid = c.args.from + 2 * done in
    decodes_more c.args.bytes.now c.args.from mid (mid + 8) _ (take done c.loop-fours.out) _ _ (omega arith) (omega arith) (omega arith)
    c.loop-fours.invariant c.in-Some.ensures
    (ap (λ n. take n c.put_four.new.out) (omega arith) ∙ c.put_four.ensures)
