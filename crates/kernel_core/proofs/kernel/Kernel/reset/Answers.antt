use Rattle.std.proofs.Common.{sym, ◌∙◌, arith}
use Rattle.kernel_core.proofs.CallEffects.{opened, known}
use Rattle.kernel_core.proofs.Resetting.{IsEmptying, changes, does_reset, steps_reset, reset_without_tenant}
use Rattle.kernel_core.proofs.kernel.Kernel.reset.Goals as goal

pub returns-in_default-clause-steps : goal.returns-in_default-clause-steps
returns-in_default-clause-steps c = λ agree. reset_without_tenant _ c.args.tenant c.in_default.ensures

pub give_up-superblocks-requires-clause-end : goal.give_up-superblocks-requires-clause-end
give_up-superblocks-requires-clause-end c =
    let together = opened _ _ _ _ c.self.view_is c.laws.ensures.together in
    omega (arith, c.slots_end-end.ensures.within, together.agree.superblocks)

pub give_up-superblocks-requires-clause-rest : goal.give_up-superblocks-requires-clause-rest
give_up-superblocks-requires-clause-rest c = λ u le.
    sym ((opened _ _ _ _ c.self.view_is c.laws.ensures.together).agree.slots c.in-Some.t u) ∙ c.slots_end-end.ensures.rest u le

emptying : (c : goal.After-give_up-superblocks) → IsEmptying c.self.inside.space c.give_up-superblocks.new.space c.self.inside.buddy c.self.inside.slabs c.reset-2.new.self c.in-Some.t
    c.give_up-superblocks.result
emptying c = record {
  together = opened _ _ _ _ c.self.view_is c.laws.ensures.together;
  tenant = known _ _ _ _ c.in-Some.t c.self.view_is c.in-Some.ensures.1;
  gives = c.give_up-superblocks.ensures;
  caches = c.reset-2.ensures.reset;
}

pub invariant_of-self : goal.invariant_of-self
invariant_of-self c = rw c.reset.ensures (changes _ _ _ _ _ c.in-Some.t _ (emptying c)).agree

pub returns-clause-steps : goal.returns-clause-steps
returns-clause-steps c = rw (c.reset.ensures, ← c.self.view_is) (λ agree.
    steps_reset _ _ c.in-Some.t c.args.tenant c.give_up-superblocks.result c.in-Some.ensures.0 (emptying c).tenant agree c.give_up-superblocks.ensures.count
    (does_reset _ _ _ _ _ c.in-Some.t _ (emptying c)))
