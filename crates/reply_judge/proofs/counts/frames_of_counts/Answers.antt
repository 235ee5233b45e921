use Rattle.std.proofs.Common.{arith}
use Rattle.reply_judge.proofs.RowSums.{from_order, no_order}
use Rattle.reply_judge.proofs.counts.frames_of_counts.Goals as goal

pub loop-order-preserved : goal.loop-order-preserved
loop-order-preserved c = record {
  summed = omega (arith, c.frames_in-frames.ensures.value, from_order c.args.counts.now c.loop-order.order (omega arith), c.loop-order.invariant.summed);
  most = omega arith;
}

pub returns : goal.returns
returns c = omega (arith, no_order c.args.counts.now c.loop-order.order (omega arith), c.loop-order.invariant.summed)
