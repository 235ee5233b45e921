use Rattle.std.proofs.Common.{◌≡◌, ℕ, false, IfSome, refl, ap, sym, subst, ◌∙◌}
use Rattle.words_core.specs.Requests.{body_of_answer}
use Rattle.words_core.specs.declared.event.Command.{Command}
use Rattle.words_core.specs.declared.event.Event.TheVariants as On
use Rattle.words_core.specs.declared.reply.Body.TheVariants as Say
use Rattle.words_core.specs.declared.reply.Refusal.{Refusal}
use Rattle.promise_core.specs.State.{State, Known}
use Rattle.promise_core.specs.Promises.{room, busy}
use Rattle.reply_judge.specs.Seen.{state_of}
use Rattle.reply_judge.specs.Judged.{failing, known_at}
use Rattle.reply_judge.proofs.UnchangedVerdicts.{IsPlain, full_or_due, plain_due, refused, misfit}
use Rattle.reply_judge.proofs.tenant.Tenant.judge_refusal.Goals as goal

pub returns-in_default : goal.returns-in_default
returns-in_default c t w = misfit (On.Tenant t c.args.command.now) (body_of_answer c.args.answer.now) w c.args.self.now
    (c.requires t c.args.self.now.left.order (state_of c.args.self.now) c.in_default.not-Refused)

-- `SlotBusy` may never come in reply to a tenant's command
never_busy : (t : ℕ) (m : Command) (w : Known) (s : State) → false ≡ busy (On.Tenant t m) (Say.Refused Refusal.SlotBusy) w s
never_busy t Command.Report w s = refl
never_busy t m w s = refl

pub returns : goal.returns
returns c t w =
    let x = c.args.self.now in
    let event = On.Tenant t c.args.command.now in
    let is_due = c.due.ensures t w in
    let is_full = room event (Say.Refused Refusal.NoFrames) (known_at x w) (state_of x) in
    let plain = subst (λ o. IfSome o IsPlain) (sym is_due) (plain_due t c.args.command.now (known_at x w) (state_of x)) in
    rw c.in-Refused.is (refused event c.in-Refused.refusal w x c.on_refusal.result c.due.result is_full false
    (c.on_refusal.ensures ∙ ap failing (full_or_due c.in-Refused.refusal c.due.result c.has_no_room-full.result is_full false plain
    (λ none. c.has_no_room-full.ensures t w (sym is_due ∙ none)))) is_due refl
    (never_busy t c.args.command.now (known_at x w) (state_of x)))
