use Rattle.std.proofs.Common.{◌≡◌, true, [], ◌∷◌, Some, None, Ok, Err, ap, sym, subst, ◌∙◌}
use Rattle.std.specs.Prelude.{◌==◌, find}
use Rattle.std.specs.Option.{option_copied}
use Rattle.model_core.specs.Blocks.{block}
use Rattle.words_core.specs.declared.event.Event.TheVariants as On
use Rattle.words_core.specs.declared.event.Command.TheVariants as Command
use Rattle.words_core.specs.declared.reply.Body.TheVariants as Say
use Rattle.promise_core.specs.declared.promise.Promise.{Promise}
use Rattle.reply_judge.specs.Judged.{broken, tenant_verdict}
use Rattle.reply_judge.specs.Seen.{Seen}
use Rattle.reply_judge.proofs.AnswerVerdicts.{freed_if}
use Rattle.known_holdings.proofs.CachesByNumber.{none_of}
use Rattle.std.proofs.lemmas.Bool.{ne_eqb, eq-eqb, eqb-true}
use Rattle.model_core.proofs.Lists.{find_in}
use Rattle.model_core.specs.Elements.{IsIn}
use Rattle.reply_judge.proofs.tenant.Tenant.live_block.Goals as goal

pub returns-in_default-clause-judged : goal.returns-in_default-clause-judged
returns-in_default-clause-judged c t w =
    let x : Seen = record { has = c.self.inside.held; left = c.self.inside.left; may_have_empty = c.self.inside.may_have_empty; last_report = c.self.inside.last_report } in
    let none : find (λ b. b.first == c.args.frame) x.has.pages ≡ None = sym c.page_at.ensures ∙ ap option_copied (none_of c.page_at.result c.in_default.not-Some) in
    sym (subst (λ (y : Seen). tenant_verdict (On.Tenant t (Command.Free c.args.frame)) (Say.Freed c.args.k) w y ≡ Err Promise.Refusals) c.self.view_is (freed_if t c.args.frame c.args.k w x None none))

pub returns-then-order-k-clause-judged : goal.returns-then-order-k-clause-judged
returns-then-order-k-clause-judged c t w =
    let x : Seen = record { has = c.self.inside.held; left = c.self.inside.left; may_have_empty = c.self.inside.may_have_empty; last_report = c.self.inside.last_report } in
    let some : find (λ b. b.first == c.args.frame) x.has.pages ≡ Some c.in-Some.block.now = sym c.page_at.ensures ∙ ap option_copied c.in-Some.is in
    sym (subst (λ (y : Seen). tenant_verdict (On.Tenant t (Command.Free c.args.frame)) (Say.Freed c.args.k) w y ≡ Err Promise.Gives) c.self.view_is (freed_if t c.args.frame c.args.k w x (Some c.in-Some.block.now) some
    ∙ ap (λ b. broken ((Promise.Gives, b) ∷ [])) (ne_eqb c.in-Some.block.now.order c.args.k (λ e. c.if-order-k.true (c.order.ensures.value ∙ e)))))

pub returns-clause-judged : goal.returns-clause-judged
returns-clause-judged c t w =
    let x : Seen = record { has = c.self.inside.held; left = c.self.inside.left; may_have_empty = c.self.inside.may_have_empty; last_report = c.self.inside.last_report } in
    let some : find (λ b. b.first == c.args.frame) x.has.pages ≡ Some c.in-Some.block.now = sym c.page_at.ensures ∙ ap option_copied c.in-Some.is in
    sym (subst (λ (y : Seen). tenant_verdict (On.Tenant t (Command.Free c.args.frame)) (Say.Freed c.args.k) w y ≡ Ok tt) c.self.view_is (freed_if t c.args.frame c.args.k w x (Some c.in-Some.block.now) some
    ∙ ap (λ b. broken ((Promise.Gives, b) ∷ [])) (eq-eqb c.in-Some.block.now.order c.args.k (sym c.order.ensures.value ∙ c.if-order-k.false))))

pub returns-clause-is : goal.returns-clause-is
returns-clause-is c =
    let x : Seen = record { has = c.self.inside.held; left = c.self.inside.left; may_have_empty = c.self.inside.may_have_empty; last_report = c.self.inside.last_report } in
    let some : find (λ b. b.first == c.args.frame) x.has.pages ≡ Some c.in-Some.block.now = sym c.page_at.ensures ∙ ap option_copied c.in-Some.is in
    let at : IsIn c.in-Some.block.now x.has.pages × ((c.in-Some.block.now.first == c.args.frame) ≡ true) = find_in (λ b. b.first == c.args.frame) c.in-Some.block.now x.has.pages some in
    λ i. block (eqb-true c.in-Some.block.now.first c.args.frame at.1 i) ((sym c.order.ensures.value ∙ c.if-order-k.false) i)
