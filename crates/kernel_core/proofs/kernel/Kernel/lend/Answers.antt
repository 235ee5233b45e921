use Rattle.std.proofs.Common.{refl}
use Rattle.machine_changes.specs.Pages.{IsInReach}
use Rattle.kernel_core.proofs.CallEffects.{known}
use Rattle.kernel_core.proofs.PageCalls.{IsRequested, reach_opened}
use Rattle.kernel_core.proofs.LendBytes.{lent_agrees, lent_left, lent_is}
use Rattle.kernel_core.proofs.kernel.Kernel.lend.Goals as goal
use Rattle.kernel_core.proofs.kernel.Kernel.lend.Goals.{After-lend_within}

asked : (c : After-lend_within) → IsRequested c.self.inside.space c.self.inside.buddy c.self.inside.slabs c.args.span.tenant
asked c = record { together = c.laws.ensures.together; tenant = known _ _ _ _ c.args.span.tenant c.self.view_is c.requires.tenant }

reach : (c : After-lend_within) → IsInReach c.self.inside.space c.self.inside.buddy c.self.inside.slabs c.args.span.tenant c.args.span.place c.args.span.bytes
reach c = reach_opened _ _ _ _ c.args.span.tenant c.args.span.place c.args.span.bytes c.self.view_is c.requires.reach

pub invariant_of-self-lent : goal.invariant_of-self-lent
invariant_of-self-lent c = λ w. lent_agrees _ _ _ c.args.span.tenant c.args.span.place c.args.span.bytes c.lend_within.result.now (asked c) (reach c) c.lend_within.ensures.value w

pub returns : goal.returns
returns c =
    let a = (goal.at.returns c).After-lend_within in
    rw (← c.self.view_is) (
      (refl, λ w. lent_left _ _ _ c.args.span.tenant c.args.span.place c.args.span.bytes c.lend_within.result.now (asked a) (reach a) c.lend_within.ensures.value w),
      record { writes_back = tt; lent = lent_is _ _ _ c.args.span.tenant c.args.span.place c.args.span.bytes c.lend_within.result.now (asked a) (reach a) c.lend_within.ensures.value },
    )
