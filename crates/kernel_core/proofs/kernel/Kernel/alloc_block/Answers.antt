use Rattle.std.proofs.Common.{ap, ◌∙◌, arith}
use Rattle.std.specs.Prelude.{option_map}
use Rattle.std.proofs.lemmas.Bool.{lt-ltb}
use Rattle.buddy_core.specs.declared.ReservedBlock.{ReservedBlock}
use Rattle.slab_core.specs.Lending.{IsReservedPage}
use Rattle.words_core.specs.declared.reply.Body.TheVariants.{Frame}
use Rattle.kernel_core.specs.Steps.{body_of}
use Rattle.kernel_core.proofs.PageCalls.{alloc_large, alloc_done, block_allocated, first_none, ok_told}
use Rattle.kernel_core.proofs.kernel.Kernel.alloc_block.Goals as goal

pub returns-then-order-from-clause-steps : goal.returns-then-order-from-clause-steps
returns-then-order-from-clause-steps c = rw (← c.self.view_is) (alloc_large _ c.args.t c.args.order (lt-ltb c.self.inside.buddy.top c.args.order (omega arith)))

pub returns-clause-steps : goal.returns-clause-steps
returns-clause-steps c =
    rw (ap (body_of (λ (block : ReservedBlock). Frame block.first)) c.ok_or.ensures.value ∙ block_allocated c.reserve_block_by_need.result, ← c.self.view_is)
    (alloc_done _ _ _ _ _ _ c.args.t c.args.order (option_map (λ (x : ReservedBlock). x.first) c.reserve_block_by_need.result) (record {
      agree = c.self.invariant;
      spares = c.reserve_block_by_need.ensures.spares;
      order = omega (arith, c.self.invariant.order);
      answer = c.reserve_block_by_need.ensures.answer;
      shows = c.reserve_block_by_need.ensures.shows;
      refused = first_none c.reserve_block_by_need.result _ c.reserve_block_by_need.ensures.refused;
    }))

pub returns-clause-page : goal.returns-clause-page
returns-clause-page c =
    rw c.ok_or.ensures.value (ok_told
    (IsReservedPage c.reserve_block_by_need.new.space c.reserve_block_by_need.new.buddy c.reserve_block_by_need.new.self c.args.t c.args.order)
    c.reserve_block_by_need.result c.reserve_block_by_need.ensures.page)
