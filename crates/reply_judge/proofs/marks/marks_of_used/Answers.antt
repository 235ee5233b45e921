use Rattle.std.proofs.Common.{arith}
use Rattle.reply_judge.proofs.KnownAfterCommand.{all_marked}
use Rattle.reply_judge.proofs.marks.marks_of_used.Goals as goal

pub returns : goal.returns
returns c = all_marked c.args.held.now c.loop-n.marks c.loop-n.invariant.1 (λ k lt. c.loop-n.invariant.2 k (omega (arith, lt)))
