use Rattle.std.proofs.Common.{◌≡◌, true, false, [], ◌∷◌, Some, None, Ok, Err, ap, sym, subst, ◌∙◌}
use Rattle.std.specs.Option.{option_copied}
use Rattle.words_core.specs.declared.event.Event.TheVariants as On
use Rattle.words_core.specs.declared.event.Command.TheVariants as Command
use Rattle.words_core.specs.declared.reply.Body.TheVariants as Say
use Rattle.promise_core.specs.declared.promise.Promise.{Promise}
use Rattle.promise_core.specs.Holdings.{known_cache, can_be_taken}
use Rattle.reply_judge.specs.Judged.{broken, tenant_verdict}
use Rattle.reply_judge.specs.Seen.{Seen}
use Rattle.reply_judge.proofs.AnswerVerdicts.{taken_if}
use Rattle.known_holdings.proofs.CachesByNumber.{none_of}
use Rattle.reply_judge.proofs.tenant.Tenant.cache_with.Goals as goal

pub returns-in_default-clause-judged : goal.returns-in_default-clause-judged
returns-in_default-clause-judged c t w =
    let x : Seen = record { has = c.self.inside.held; left = c.self.inside.left; may_have_empty = c.self.inside.may_have_empty; last_report = c.self.inside.last_report } in
    let none : known_cache x.has c.args.number ≡ None = sym c.cache.ensures ∙ ap option_copied (none_of c.cache.result c.in_default.not-Some) in
    sym (subst (λ (y : Seen). tenant_verdict (On.Tenant t (Command.Take c.args.number)) (Say.Object c.args.place) w y ≡ Err Promise.Refusals) c.self.view_is (taken_if t c.args.number w x None none c.args.place))

pub returns-then-not-can_be_taken-clause-judged : goal.returns-then-not-can_be_taken-clause-judged
returns-then-not-can_be_taken-clause-judged c t w =
    let x : Seen = record { has = c.self.inside.held; left = c.self.inside.left; may_have_empty = c.self.inside.may_have_empty; last_report = c.self.inside.last_report } in
    let some : known_cache x.has c.args.number ≡ Some c.in-Some.cache.now = sym c.cache.ensures ∙ ap option_copied c.in-Some.is in
    let can : can_be_taken x.left.order x.has c.in-Some.cache.now c.args.place ≡ false = ap (λ k. can_be_taken k x.has c.in-Some.cache.now c.args.place) (sym c.order.ensures.value)
    ∙ (sym c.can_be_taken.ensures ∙ c.if-not-can_be_taken.true) in
    sym (subst (λ (y : Seen). tenant_verdict (On.Tenant t (Command.Take c.args.number)) (Say.Object c.args.place) w y ≡ Err Promise.Objects) c.self.view_is (taken_if t c.args.number w x (Some c.in-Some.cache.now) some c.args.place ∙ ap (λ b. broken ((Promise.Objects, b) ∷ [])) can))

pub returns-clause-judged : goal.returns-clause-judged
returns-clause-judged c t w =
    let x : Seen = record { has = c.self.inside.held; left = c.self.inside.left; may_have_empty = c.self.inside.may_have_empty; last_report = c.self.inside.last_report } in
    let some : known_cache x.has c.args.number ≡ Some c.in-Some.cache.now = sym c.cache.ensures ∙ ap option_copied c.in-Some.is in
    let can : can_be_taken x.left.order x.has c.in-Some.cache.now c.args.place ≡ true = ap (λ k. can_be_taken k x.has c.in-Some.cache.now c.args.place) (sym c.order.ensures.value)
    ∙ (sym c.can_be_taken.ensures ∙ c.if-not-can_be_taken.false) in
    sym (subst (λ (y : Seen). tenant_verdict (On.Tenant t (Command.Take c.args.number)) (Say.Object c.args.place) w y ≡ Ok tt) c.self.view_is (taken_if t c.args.number w x (Some c.in-Some.cache.now) some c.args.place ∙ ap (λ b. broken ((Promise.Objects, b) ∷ [])) can))
