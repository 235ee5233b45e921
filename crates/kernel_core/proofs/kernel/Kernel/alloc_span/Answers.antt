use Rattle.std.proofs.Common.{◌≡◌, ◌*◌, ◌/◌, ◌<◌, sym, ap, ◌∙◌, subst, arith}
use Rattle.std.specs.Prelude.{Err}
use Rattle.std.proofs.lemmas.Result.{err_from_is_err_and}
use Rattle.words_core.specs.declared.event.Event.TheVariants as On
use Rattle.words_core.specs.declared.event.Command.TheVariants as Command
use Rattle.words_core.specs.declared.reply.Body.TheVariants.{Frame}
use Rattle.kernel_core.specs.Steps.{Steps}
use Rattle.kernel_core.specs.Lending.{reply_for}
use Rattle.kernel_core.proofs.PageCalls.{IsRequested}
use Rattle.kernel_core.proofs.LendSpans.{page_few, page_live, page_span, reply_unknown, reply_known, reply_refused}
use Rattle.kernel_core.proofs.kernel.Kernel.alloc_span.Goals as goal
use Rattle.kernel_core.proofs.kernel.Kernel.alloc_span.Goals.{After-laws-2}

-- the tenant still exists after the block is allocated
there : (c : After-laws-2) → c.in-Some.t < c.alloc_block.new.self.tenants
there c = let same = c.in_ok-block.ensures.steps.does.sizes.tenants in let before = c.in-Some.ensures.1 in omega arith

asked : (c : After-laws-2) → IsRequested c.alloc_block.new.self.space c.alloc_block.new.self.buddy c.alloc_block.new.self.slabs c.in-Some.t
asked c =
    let known = there c in
    let all = c.laws-2.ensures.agree.holdings in
    record { together = c.laws-2.ensures.together; tenant = omega arith }

pub overflow_shl-result : goal.overflow_shl-result
overflow_shl-result c =
    let a = (goal.at.overflow_shl-result c).After-laws-2 in
    let small = page_few _ _ _ c.in-Some.t c.in_ok-block.block.first c.args.order (asked a) c.in_ok-block.ensures.page.page in
    omega arith

pub returns-in_default-clause-steps : goal.returns-in_default-clause-steps
returns-in_default-clause-steps c = reply_unknown c.args.self.now c.args.tenant (Command.Alloc c.args.order) c.in_default.ensures

pub returns-in_err-block-clause-steps : goal.returns-in_err-block-clause-steps
returns-in_err-block-clause-steps c =
    let x = c.args in
    let told = err_from_is_err_and c.from_residual.result c.from_residual.ensures.1 in
    rw (told.1 ∙ ap Err told.2)
    (reply_refused x.self.now c.alloc_block.new.self c.in-Some.t x.tenant (Command.Alloc x.order) c.in_err-block.field-0.0 c.in-Some.ensures.0 c.in-Some.ensures.1
    c.laws.ensures.agree c.in_err-block.ensures.steps)

pub returns-clause-steps : goal.returns-clause-steps
returns-clause-steps c =
    let first = c.in_ok-block.block.first in
    let frame : 4096 * first / 4096 ≡ first = omega arith in
    subst (λ n. Steps c.args.self.now (On.Tenant c.args.tenant (Command.Alloc c.args.order)) c.alloc_block.new.self (reply_for c.args.self.now c.args.tenant (Frame n))) (sym frame)
    (reply_known c.args.self.now c.alloc_block.new.self c.in-Some.t c.args.tenant (Command.Alloc c.args.order) (Frame first) c.in-Some.ensures.0 c.in-Some.ensures.1
    c.laws-2.ensures.agree c.in_ok-block.ensures.steps)

pub returns-clause-block : goal.returns-clause-block
returns-clause-block c =
    let a = (goal.at.returns-clause-block c).After-laws-2 in
    let first = c.in_ok-block.block.first in
    let frame : 4096 * first / 4096 ≡ first = omega arith in
    let span = page_span _ _ _ c.in-Some.t first c.args.order (asked a) c.in_ok-block.ensures.page.page c.in_ok-block.block.superblock in
    record { tenant = c.in-Some.ensures.0; place = ap (λ n. 4096 * n) (sym frame); bytes = span.bytes }

pub returns-clause-live : goal.returns-clause-live
returns-clause-live c =
    let a = (goal.at.returns-clause-live c).After-laws-2 in
    let reserved = c.in_ok-block.ensures.page in
    let is = page_live _ _ _ c.in-Some.t c.in_ok-block.block.first c.args.order (asked a) reserved.page c.in_ok-block.block.superblock reserved.under in
    record { tenant = there a; reach = is.reach; home = is.home }
