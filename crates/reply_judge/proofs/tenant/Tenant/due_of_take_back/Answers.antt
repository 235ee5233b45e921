use Rattle.std.proofs.Common.{◌≡◌, true, false, [], ◌∷◌, Some, subst, ◌∙◌}
use Rattle.words_core.specs.declared.event.Event.TheVariants as On
use Rattle.words_core.specs.declared.event.AdminCommand.TheVariants as Do
use Rattle.words_core.specs.declared.reply.Refusal.{Refusal}
use Rattle.promise_core.specs.Holdings.{is_slot_busy}
use Rattle.promise_core.specs.Promises.{due, first_due}
use Rattle.reply_judge.specs.Seen.{Seen, state_of}
use Rattle.reply_judge.specs.Judged.{known_at}
use Rattle.reply_judge.proofs.AnswerVerdicts.{due_of_slot}
use Rattle.reply_judge.proofs.tenant.Tenant.due_of_take_back.Goals as goal

pub returns-in-Some : goal.returns-in-Some
returns-in-Some c t w =
    let x : Seen = record { has = c.self.inside.held; left = c.self.inside.left; may_have_empty = c.self.inside.may_have_empty; last_report = c.self.inside.last_report } in
    let same = c.in-Some.ensures.0 in
    let busy : c.is_slot_busy-is_busy.result ≡ is_slot_busy x.left.order x.has c.args.slot = c.is_slot_busy-is_busy.ensures ∙ (λ i. is_slot_busy (c.order.ensures.value i) x.has (same i)) in
    subst (λ (y : Seen). c.due_if.result ≡ due (On.Admin (Do.TakeBack t c.args.slot)) (known_at y w) (state_of y)) c.self.view_is
    (c.due_if.ensures ∙ ((λ i. first_due ((busy i, Refusal.SlotBusy) ∷ [])) ∙ due_of_slot t c.args.slot w x true c.in-Some.ensures.1))

pub returns-in-None : goal.returns-in-None
returns-in-None c t w =
    let x : Seen = record { has = c.self.inside.held; left = c.self.inside.left; may_have_empty = c.self.inside.may_have_empty; last_report = c.self.inside.last_report } in
    subst (λ (y : Seen). Some Refusal.NoSlot ≡ due (On.Admin (Do.TakeBack t c.args.slot)) (known_at y w) (state_of y)) c.self.view_is
    (due_of_slot t c.args.slot w x false c.in-None.ensures)
