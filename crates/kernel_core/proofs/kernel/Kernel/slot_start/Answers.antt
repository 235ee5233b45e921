use Rattle.std.proofs.Common.{arith}
use Rattle.kernel_core.proofs.FrameKinds.{slot_first}
use Rattle.kernel_core.proofs.kernel.Kernel.slot_start.Goals as goal

pub returns : goal.returns
returns c =
    rw c.from.ensures (rw c.order.ensures (slot_first c.args.slot c.args.self.now.order (omega (arith, c.ranges.slot)) (omega (arith, c.laws.ensures.agree.order))))
