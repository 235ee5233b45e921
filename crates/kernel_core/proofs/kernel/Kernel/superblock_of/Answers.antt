use Rattle.std.proofs.Common.{◌∙◌, sym, arith}
use Rattle.machine_changes.proofs.Lookups.{some_none}
use Rattle.kernel_core.proofs.CallEffects.{opened, no_row}
use Rattle.kernel_core.proofs.kernel.Kernel.superblock_of.Goals as goal

pub returns-then-t-tenants-clause-value : goal.returns-then-t-tenants-clause-value
returns-then-t-tenants-clause-value c = rw (← c.self.view_is)
    (sym (no_row c.self.inside.space c.self.inside.buddy c.self.inside.slabs c.args.t c.args.slot c.self.invariant (omega arith)))

pub returns-then-t-tenants-clause-owner : goal.returns-then-t-tenants-clause-owner
returns-then-t-tenants-clause-owner c =
    let agree = (opened _ _ _ _ c.self.view_is c.laws.ensures.together).space.facts.agree in
    rw (← c.self.view_is) (λ m. (
      (λ none. absurd (some_none (sym none))),
      (λ own. absurd (some_none (sym ((agree c.args.t c.args.slot m).1 own)
          ∙ no_row c.self.inside.space c.self.inside.buddy c.self.inside.slabs c.args.t c.args.slot c.self.invariant (omega arith)))),
    ))

pub returns-clause-owner : goal.returns-clause-owner
returns-clause-owner c =
    let agree = (opened _ _ _ _ c.self.view_is c.laws.ensures.together).space.facts.agree in
    rw (← c.self.view_is) (λ m. (
      (λ is. (agree c.args.t c.args.slot m).0 (sym c.machine_of.ensures.value ∙ is)),
      (λ own. c.machine_of.ensures.value ∙ (agree c.args.t c.args.slot m).1 own),
    ))
