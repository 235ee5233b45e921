use Rattle.std.proofs.Common.{◌+◌, refl, arith}
use Rattle.std.proofs.lemmas.Bool.{false≢true}
use Rattle.slab_core.proofs.LargeFreeBlocks.{free_of_count, none_to_next, none_free}
use Rattle.slab_core.proofs.fitting.has_free.Goals as goal

pub loop-order-init : goal.loop-order-init
loop-order-init c j from to = absurd (omega arith)

pub returns-then-free_count-gt0 : goal.returns-then-free_count-gt0
returns-then-free_count-gt0 c =
    (λ e. free_of_count c.args.buddy.now c.args.t c.args.k c.loop-order.order (omega arith) (omega arith), λ h. refl)

pub loop-order-preserved : goal.loop-order-preserved
loop-order-preserved c = none_to_next c.args.buddy.now c.args.t c.args.k c.loop-order.order c.loop-order.invariant (omega arith)

pub returns-else-free_count-gt0 : goal.returns-else-free_count-gt0
returns-else-free_count-gt0 c =
    let none = none_to_next c.args.buddy.now c.args.t c.args.k c.loop-order.order c.loop-order.invariant (omega arith) in (
      λ e. absurd (false≢true e),
      λ h. absurd (none_free c.args.buddy.now c.args.t c.args.k c.requires.laws.sizes c.requires.tenant (c.loop-order.order + 1) (omega arith) none h),
    )
