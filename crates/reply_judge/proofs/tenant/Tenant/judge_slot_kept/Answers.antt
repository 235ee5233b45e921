use Rattle.std.proofs.Common.{◌≡◌, true, false, [], ◌∷◌, Some, refl, ap, sym, subst, ◌∙◌}
use Rattle.std.specs.Prelude.{◌||◌, slice_index_or}
use Rattle.std.specs.List.{list_any}
use Rattle.words_core.specs.declared.event.Event.TheVariants as On
use Rattle.words_core.specs.declared.event.AdminCommand.TheVariants as Do
use Rattle.words_core.specs.declared.reply.Body.TheVariants as Say
use Rattle.words_core.specs.declared.reply.Refusal.{Refusal}
use Rattle.promise_core.specs.Holdings.{is_slot_busy}
use Rattle.promise_core.specs.Promises.{due, first_due}
use Rattle.reply_judge.specs.Seen.{Seen}
use Rattle.reply_judge.specs.Judged.{failing, IsVerdictFor}
use Rattle.reply_judge.proofs.UnchangedVerdicts.{refused, late_busy}
use Rattle.reply_judge.proofs.AnswerVerdicts.{due_of_slot}
use Rattle.reply_judge.proofs.tenant.Tenant.judge_slot_kept.Goals as goal

pub returns-in-Some : goal.returns-in-Some
unfolding due
returns-in-Some c t w =
    let x : Seen = record { has = c.self.inside.held; left = c.self.inside.left; may_have_empty = c.self.inside.may_have_empty; last_report = c.self.inside.last_report } in
    let same = c.in-Some.ensures.0 in
    let busy : c.is_slot_busy-is_busy.result ≡ is_slot_busy x.left.order x.has c.args.slot = c.is_slot_busy-is_busy.ensures ∙ (λ i. is_slot_busy (c.order.ensures.value i) x.has (same i)) in
    subst (λ (y : Seen). IsVerdictFor (On.Admin (Do.TakeBack t c.args.slot)) (Say.Refused c.args.refusal) w y y c.on_refusal.result) c.self.view_is
    (refused (On.Admin (Do.TakeBack t c.args.slot)) c.args.refusal w x c.on_refusal.result c.due_if-due.result false c.may_be_busy-may_be_busy.result
    c.on_refusal.ensures
    (c.due_if-due.ensures ∙ ((λ i. first_due ((busy i, Refusal.SlotBusy) ∷ [])) ∙ due_of_slot t c.args.slot w x true c.in-Some.ensures.1)) refl
    (c.may_be_busy-may_be_busy.ensures ∙ (λ i. busy i || list_any (λ y. slice_index_or (sym (ap (λ (z : Seen). z.may_have_empty) c.self.view_is) i) y.number false) (sym (ap (λ (z : Seen). z.has.caches) c.self.view_is) i))))

pub returns-in-None : goal.returns-in-None
unfolding due
returns-in-None c t w =
    let x : Seen = record { has = c.self.inside.held; left = c.self.inside.left; may_have_empty = c.self.inside.may_have_empty; last_report = c.self.inside.last_report } in
    subst (λ (y : Seen). IsVerdictFor (On.Admin (Do.TakeBack t c.args.slot)) (Say.Refused c.args.refusal) w y y c.on_refusal-in-None.result) c.self.view_is
    (refused (On.Admin (Do.TakeBack t c.args.slot)) c.args.refusal w x c.on_refusal-in-None.result (Some Refusal.NoSlot) false (is_slot_busy x.left.order x.has c.args.slot || list_any (λ y. slice_index_or x.may_have_empty y.number false) x.has.caches)
    (c.on_refusal-in-None.ensures ∙ ap failing (late_busy c.args.refusal _)) (due_of_slot t c.args.slot w x false c.in-None.ensures) refl refl)
