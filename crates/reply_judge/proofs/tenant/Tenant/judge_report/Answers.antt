use Rattle.std.proofs.Common.{◌≡◌, true, ◌&&◌, [], ◌∷◌, Some, Ok, Err, refl, ap, sym, subst, ◌∙◌}
use Rattle.std.specs.Prelude.{◌==◌, Result}
use Rattle.std.specs.List.{list_all, zip}
use Rattle.std.specs.Option.{option_map_or}
use Rattle.std.specs.Result.{IsErrAnd}
use Rattle.words_core.specs.declared.event.Event.{Event}
use Rattle.words_core.specs.declared.event.Event.TheVariants as On
use Rattle.words_core.specs.declared.event.Command.TheVariants as Command
use Rattle.words_core.specs.declared.reply.Body.{Body}
use Rattle.words_core.specs.declared.reply.Body.TheVariants as Say
use Rattle.promise_core.specs.declared.promise.Promise.{Promise}
use Rattle.promise_core.specs.Promises.{due, report}
use Rattle.promise_core.specs.State.{Known, state_after}
use Rattle.reply_judge.specs.Judged.{broken, failing, IsFollowed, IsVerdictFor, tenant_verdict}
use Rattle.reply_judge.specs.Seen.{Seen, state_of}
use Rattle.reply_judge.proofs.SoundVerdicts.{followed}
use Rattle.reply_judge.proofs.KnownAfterCommand.{reported}
use Rattle.reply_judge.proofs.tenant.Tenant.judge_report.Goals as goal

told_off : (event : Event) (body : Body) (w : Known) (x : Seen) (promise : Promise) (v : Result (Unit {0}) Promise) → IsErrAnd v (λ e. e ≡ promise)
    → Err promise ≡ tenant_verdict event body w x → IsVerdictFor event body w x x (failing v)
told_off event body w x promise (Ok u) fails broken = absurd fails
told_off event body w x promise (Err e) is broken = (sym broken ∙ ap (λ p. Err p) (sym is), refl)

pub returns-in_err-on_still_answer : goal.returns-in_err-on_still_answer
unfolding due state_after
returns-in_err-on_still_answer c t w =
    let x : Seen = record { has = c.self.inside.held; left = c.self.inside.left; may_have_empty = c.self.inside.may_have_empty; last_report = c.self.inside.last_report } in
    let r = c.args.report.now in
    told_off (On.Tenant t Command.Report) (Say.Report r) w c.args.self.now c.in_err-on_still_answer.field-0.0 c.from_residual.result c.from_residual.ensures.1
    (subst (λ (y : Seen). Err c.in_err-on_still_answer.field-0.0 ≡ tenant_verdict (On.Tenant t Command.Report) (Say.Report r) w y) c.self.view_is
    (c.in_err-on_still_answer.ensures ∙ (λ i. broken ((Promise.Refusals, true)
    ∷ (Promise.Report, (c.tells_state-is_right.ensures t w (state_of x) ∙ ap (λ k. report (On.Tenant t Command.Report) (Say.Report r) (record w { order = k }) (state_of x)) c.order.ensures.value) i)
    ∷ (
      Promise.Still,
      (c.tells_same-is_still.ensures ∙ ap (λ o. option_map_or (λ q. list_all (λ p. p.0.free == p.1.free) (zip q.orders.items r.orders.items)
          && list_all (λ p. p.0.empty == p.1.empty) (zip q.caches.items r.caches.items)) o true) c.as_ref.ensures.value) i,
    ) ∷ []))))

pub returns : goal.returns
unfolding due state_after
returns c t w =
    let x : Seen = record { has = c.self.inside.held; left = c.self.inside.left; may_have_empty = c.self.inside.may_have_empty; last_report = c.self.inside.last_report } in
    let r = c.args.report.now in
    followed (On.Tenant t Command.Report) (Say.Report r) w x c.args.self.now (record x { last_report = Some c.copy_of.result }) c.self.view_is
    (subst (λ (y : Seen). Ok tt ≡ tenant_verdict (On.Tenant t Command.Report) (Say.Report r) w y) c.self.view_is (c.in_ok-on_still_answer.ensures ∙ (λ i. broken ((Promise.Refusals, true)
    ∷ (Promise.Report, (c.tells_state-is_right.ensures t w (state_of x) ∙ ap (λ k. report (On.Tenant t Command.Report) (Say.Report r) (record w { order = k }) (state_of x)) c.order.ensures.value) i)
    ∷ (
      Promise.Still,
      (c.tells_same-is_still.ensures ∙ ap (λ o. option_map_or (λ q. list_all (λ p. p.0.free == p.1.free) (zip q.orders.items r.orders.items)
          && list_all (λ p. p.0.empty == p.1.empty) (zip q.caches.items r.caches.items)) o true) c.as_ref.ensures.value) i,
    ) ∷ []))))
    (λ kept. subst (λ q. IsFollowed (On.Tenant t Command.Report) (Say.Report r) w x (record x { last_report = Some q })) (sym c.copy_of.ensures) (reported t r w x kept))
