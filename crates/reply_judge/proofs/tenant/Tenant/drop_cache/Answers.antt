use Rattle.std.proofs.Common.{None, ap, [], ◌∷◌, ◌∙◌}
use Rattle.words_core.specs.declared.event.Event.TheVariants as On
use Rattle.words_core.specs.declared.event.Command.TheVariants as Command
use Rattle.words_core.specs.declared.reply.Body.TheVariants as Say
use Rattle.promise_core.specs.declared.promise.Promise.{Promise}
use Rattle.promise_core.specs.State.{state_after}
use Rattle.reply_judge.specs.Judged.{broken}
use Rattle.reply_judge.proofs.UnchangedVerdicts.{broken_off}
use Rattle.std.specs.Prelude.{is_none}
use Rattle.reply_judge.specs.Seen.{Seen}
use Rattle.reply_judge.proofs.SoundVerdicts.{sound_in, followed, same_slots}
use Rattle.reply_judge.proofs.KnownAfterCommand.{nothing, destroyed}
use Rattle.reply_judge.proofs.tenant.Tenant.drop_cache.Goals as goal

pub returns-in_err-on_still_answer : goal.returns-in_err-on_still_answer
unfolding state_after
returns-in_err-on_still_answer c t w = broken_off (On.Tenant t (Command.Destroy c.args.number)) (Say.Destroyed c.args.frames) w c.args.self.now c.in_err-on_still_answer.field-0.0 c.from_residual.result c.from_residual.ensures.1 (c.in_err-on_still_answer.ensures ∙ (λ i. broken ((Promise.Refusals, is_none (c.due_of_destroy-due.ensures t w i)) ∷ (Promise.Gives, c.can_come_back-can_come.ensures i) ∷ (Promise.Still, c.are_frames_told-is_still.ensures i) ∷ [])))

pub invariant_of-self : goal.invariant_of-self
unfolding state_after
invariant_of-self c =
    let x : Seen = record { has = c.self.inside.held; left = c.self.inside.left; may_have_empty = c.self.inside.may_have_empty; last_report = c.self.inside.last_report } in
    let new : Seen = record { has = c.destroy.new.self; left = c.destroy-2.new.self; may_have_empty = c.clear_mark.new.marks; last_report = None } in
    sound_in (On.Tenant 0 (Command.Destroy c.args.number)) (Say.Destroyed c.args.frames) nothing x c.args.self.now new c.self.view_is c.self.invariant (c.in_ok-on_still_answer.ensures ∙ (λ i. broken ((Promise.Refusals, is_none (c.due_of_destroy-due.ensures 0 nothing i)) ∷ (Promise.Gives, c.can_come_back-can_come.ensures i) ∷ (Promise.Still, c.are_frames_told-is_still.ensures i) ∷ [])))
    (λ kept. destroyed 0 c.args.number c.args.frames nothing x c.destroy.new.self c.destroy-2.new.self c.clear_mark.new.marks kept c.destroy.ensures c.destroy-2.ensures c.clear_mark.ensures)
    (same_slots x new _ c.self.invariant c.destroy-2.ensures (ap (λ h. h.slots) c.destroy.ensures))

pub returns : goal.returns
unfolding state_after
returns c t w =
    let x : Seen = record { has = c.self.inside.held; left = c.self.inside.left; may_have_empty = c.self.inside.may_have_empty; last_report = c.self.inside.last_report } in
    let new : Seen = record { has = c.destroy.new.self; left = c.destroy-2.new.self; may_have_empty = c.clear_mark.new.marks; last_report = None } in
    followed (On.Tenant t (Command.Destroy c.args.number)) (Say.Destroyed c.args.frames) w x c.args.self.now new c.self.view_is (c.in_ok-on_still_answer.ensures ∙ (λ i. broken ((Promise.Refusals, is_none (c.due_of_destroy-due.ensures t w i)) ∷ (Promise.Gives, c.can_come_back-can_come.ensures i) ∷ (Promise.Still, c.are_frames_told-is_still.ensures i) ∷ [])))
    (λ kept. destroyed t c.args.number c.args.frames w x c.destroy.new.self c.destroy-2.new.self c.clear_mark.new.marks kept c.destroy.ensures c.destroy-2.ensures c.clear_mark.ensures)
