use Rattle.std.proofs.Common.{ap, ◌∙◌, arith}
use Rattle.std.proofs.lemmas.Bool.{lt-ltb}
use Rattle.slab_core.specs.Lending.{IsPageAt}
use Rattle.words_core.specs.declared.reply.Body.TheVariants.{Frame}
use Rattle.kernel_core.specs.Steps.{body_of}
use Rattle.kernel_core.proofs.PageCalls.{alloc_large, alloc_done, allocated, ok_told}
use Rattle.kernel_core.proofs.kernel.Kernel.alloc.Goals as goal

pub returns-then-order-from-clause-steps : goal.returns-then-order-from-clause-steps
returns-then-order-from-clause-steps c = rw (← c.self.view_is) (alloc_large _ c.args.t c.args.order (lt-ltb c.self.inside.buddy.top c.args.order (omega arith)))

pub returns-clause-steps : goal.returns-clause-steps
returns-clause-steps c =
    rw (ap (body_of Frame) c.ok_or.ensures.value ∙ allocated c.reserve_by_need.result, ← c.self.view_is)
    (alloc_done _ _ _ _ _ _ c.args.t c.args.order c.reserve_by_need.result (record {
      agree = c.self.invariant;
      spares = c.reserve_by_need.ensures.spares;
      order = omega (arith, c.self.invariant.order);
      answer = c.reserve_by_need.ensures.answer;
      shows = c.reserve_by_need.ensures.shows;
      refused = c.reserve_by_need.ensures.refused;
    }))

pub returns-clause-page : goal.returns-clause-page
returns-clause-page c =
    rw c.ok_or.ensures.value (ok_told (λ first. IsPageAt c.reserve_by_need.new.space c.reserve_by_need.new.buddy c.reserve_by_need.new.self c.args.t first c.args.order)
    c.reserve_by_need.result c.reserve_by_need.ensures.page)
