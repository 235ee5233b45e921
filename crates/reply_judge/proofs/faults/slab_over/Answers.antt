use Rattle.std.proofs.Common.{arith, sym, ◌∙◌}
use Rattle.reply_judge.proofs.SlabsInWay.{next_slab}
use Rattle.reply_judge.proofs.faults.slab_over.Goals as goal

pub returns-in-Some : goal.returns-in-Some
returns-in-Some c =
    let e = next_slab c.args.block.now c.loop-cache.cache-index c.in-Some.place _ c.cache-item.result (omega arith) c.cache-item.is (sym c.object_over.ensures ∙ c.in-Some.is) in
    cc (e, c.number.ensures, c.loop-cache.invariant)
