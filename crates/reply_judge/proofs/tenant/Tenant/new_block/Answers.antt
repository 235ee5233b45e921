use Rattle.std.proofs.Common.{◌≡◌, true, false, Ok, Err, sym, subst, ◌∙◌, arith}
use Rattle.model_core.specs.Blocks.{block}
use Rattle.words_core.specs.declared.event.Event.TheVariants as On
use Rattle.words_core.specs.declared.event.Command.TheVariants as Command
use Rattle.words_core.specs.declared.reply.Body.TheVariants as Say
use Rattle.promise_core.specs.declared.promise.Promise.{Promise}
use Rattle.promise_core.specs.Holdings.{can_stand}
use Rattle.reply_judge.specs.Seen.{Seen}
use Rattle.reply_judge.specs.Judged.{tenant_verdict}
use Rattle.reply_judge.proofs.AnswerVerdicts.{too_large, stands}
use Rattle.reply_judge.proofs.tenant.Tenant.new_block.Goals as goal

pub returns-then-k-from-clause-judged : goal.returns-then-k-from-clause-judged
returns-then-k-from-clause-judged c t w =
    let x : Seen = record { has = c.self.inside.held; left = c.self.inside.left; may_have_empty = c.self.inside.may_have_empty; last_report = c.self.inside.last_report } in
    sym (subst (λ (y : Seen). tenant_verdict (On.Tenant t (Command.Alloc c.args.k)) (Say.Frame c.args.frame) w y ≡ Err Promise.Refusals) c.self.view_is (too_large t c.args.k c.args.frame w x (omega (arith, c.order-order.ensures.value))))

pub returns-then-not-can_stand-clause-judged : goal.returns-then-not-can_stand-clause-judged
returns-then-not-can_stand-clause-judged c t w =
    let x : Seen = record { has = c.self.inside.held; left = c.self.inside.left; may_have_empty = c.self.inside.may_have_empty; last_report = c.self.inside.last_report } in
    let can : can_stand x.left.order x.has (block c.args.frame c.args.k) ≡ false = (λ i. can_stand (sym c.order-order.ensures.value i) x.has (sym c.new-block.ensures i))
    ∙ (sym c.can_stand.ensures ∙ c.if-not-can_stand.true) in
    sym (subst (λ (y : Seen). tenant_verdict (On.Tenant t (Command.Alloc c.args.k)) (Say.Frame c.args.frame) w y ≡ Err Promise.Blocks) c.self.view_is (stands t c.args.k c.args.frame w x (omega (arith, c.order-order.ensures.value)) false can))

pub returns-clause-judged : goal.returns-clause-judged
returns-clause-judged c t w =
    let x : Seen = record { has = c.self.inside.held; left = c.self.inside.left; may_have_empty = c.self.inside.may_have_empty; last_report = c.self.inside.last_report } in
    let can : can_stand x.left.order x.has (block c.args.frame c.args.k) ≡ true = (λ i. can_stand (sym c.order-order.ensures.value i) x.has (sym c.new-block.ensures i))
    ∙ (sym c.can_stand.ensures ∙ c.if-not-can_stand.false) in
    sym (subst (λ (y : Seen). tenant_verdict (On.Tenant t (Command.Alloc c.args.k)) (Say.Frame c.args.frame) w y ≡ Ok tt) c.self.view_is (stands t c.args.k c.args.frame w x (omega (arith, c.order-order.ensures.value)) true can))
