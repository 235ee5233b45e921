use Rattle.std.proofs.Common.{ap, true, [], ◌∷◌, ◌∙◌, sym, subst}
use Rattle.words_core.specs.declared.event.Event.TheVariants as On
use Rattle.words_core.specs.declared.event.Command.TheVariants as Command
use Rattle.words_core.specs.declared.reply.Body.TheVariants as Say
use Rattle.promise_core.specs.declared.promise.Promise.{Promise}
use Rattle.promise_core.specs.State.{state_after}
use Rattle.reply_judge.specs.Judged.{IsFollowed, broken}
use Rattle.reply_judge.proofs.UnchangedVerdicts.{broken_off}
use Rattle.std.specs.Prelude.{Option, is_none}
use Rattle.words_core.specs.declared.report.Report.{Report}
use Rattle.reply_judge.specs.Seen.{Seen}
use Rattle.reply_judge.proofs.SoundVerdicts.{sound_in, followed, same_slots}
use Rattle.reply_judge.proofs.KnownAfterCommand.{nothing, changed, given}
use Rattle.reply_judge.proofs.tenant.Tenant.drop_object.Goals as goal

pub returns-in_err-on_answer : goal.returns-in_err-on_answer
unfolding state_after
returns-in_err-on_answer c t w = broken_off (On.Tenant t (Command.Give c.args.number c.args.place)) Say.Given w c.args.self.now c.in_err-on_answer.field-0.0 c.from_residual.result c.from_residual.ensures.1 (c.in_err-on_answer.ensures ∙ (λ i. broken ((Promise.Refusals, is_none (c.due_of_give.ensures t w i)) ∷ (Promise.Gives, true) ∷ [])))

pub invariant_of-self : goal.invariant_of-self
unfolding state_after
invariant_of-self c =
    let x : Seen = record { has = c.self.inside.held; left = c.self.inside.left; may_have_empty = c.self.inside.may_have_empty; last_report = c.self.inside.last_report } in
    let new : Seen = changed x c.give.new.self c.give-2.new.self in
    sound_in (On.Tenant 0 (Command.Give c.args.number c.args.place)) Say.Given nothing x c.args.self.now new c.self.view_is c.self.invariant (c.in_ok-on_answer.ensures ∙ (λ i. broken ((Promise.Refusals, is_none (c.due_of_give.ensures 0 nothing i)) ∷ (Promise.Gives, true) ∷ [])))
    (λ kept. given 0 c.args.number c.args.place nothing x c.give.new.self c.give-2.new.self kept c.give.ensures c.give-2.ensures)
    (same_slots x new _ c.self.invariant c.give-2.ensures (ap (λ h. h.slots) c.give.ensures))

pub returns : goal.returns
unfolding state_after
returns c t w =
    let x : Seen = record { has = c.self.inside.held; left = c.self.inside.left; may_have_empty = c.self.inside.may_have_empty; last_report = c.self.inside.last_report } in
    let new : Seen = changed x c.give.new.self c.give-2.new.self in
    subst (λ (last_report : Option Report). IsFollowed (On.Tenant t (Command.Give c.args.number c.args.place)) Say.Given w c.args.self.now (record new { last_report = last_report })) (sym c.forget.ensures)
    (followed (On.Tenant t (Command.Give c.args.number c.args.place)) Say.Given w x c.args.self.now new c.self.view_is (c.in_ok-on_answer.ensures ∙ (λ i. broken ((Promise.Refusals, is_none (c.due_of_give.ensures t w i)) ∷ (Promise.Gives, true) ∷ [])))
    (λ kept. given t c.args.number c.args.place w x c.give.new.self c.give-2.new.self kept c.give.ensures c.give-2.ensures))
