use Rattle.std.proofs.Common.{None, refl, true, [], ◌∷◌, ap, ◌∙◌}
use Rattle.words_core.specs.declared.event.Event.TheVariants as On
use Rattle.words_core.specs.declared.event.Command.TheVariants as Command
use Rattle.words_core.specs.declared.reply.Body.TheVariants as Say
use Rattle.promise_core.specs.declared.promise.Promise.{Promise}
use Rattle.promise_core.specs.State.{state_after}
use Rattle.reply_judge.specs.Judged.{broken}
use Rattle.reply_judge.proofs.UnchangedVerdicts.{broken_off}
use Rattle.promise_core.specs.Promises.{due, can_come_back}
use Rattle.reply_judge.specs.Seen.{state_of, Seen}
use Rattle.reply_judge.proofs.KnownAfterCommand.{all_pass, nothing, reaped}
use Rattle.reply_judge.proofs.SoundVerdicts.{sound_in, followed, same_slots}
use Rattle.reply_judge.proofs.tenant.Tenant.drop_empty_slabs.Goals as goal

pub returns-in_err-on_still_answer : goal.returns-in_err-on_still_answer
unfolding due state_after
returns-in_err-on_still_answer c t w = broken_off (On.Tenant t Command.Reap) (Say.Reaped c.args.frames) w c.args.self.now c.in_err-on_still_answer.field-0.0 c.from_residual.result c.from_residual.ensures.1 (c.in_err-on_still_answer.ensures ∙ (λ i. broken ((Promise.Refusals, true) ∷ (Promise.Gives, (c.can_come_back-can_come.ensures ∙ ap (λ cs. can_come_back c.args.self.now.left.order cs c.args.frames (state_of c.args.self.now)) (all_pass c.args.self.now.has.caches)) i) ∷ (Promise.Still, c.are_frames_told-is_still.ensures i) ∷ [])))

pub invariant_of-self : goal.invariant_of-self
unfolding due state_after
invariant_of-self c =
    let x : Seen = record { has = c.self.inside.held; left = c.self.inside.left; may_have_empty = c.self.inside.may_have_empty; last_report = c.self.inside.last_report } in
    let new : Seen = record { has = x.has; left = c.reap.new.self; may_have_empty = c.marks_of_used-used.result; last_report = None } in
    sound_in (On.Tenant 0 Command.Reap) (Say.Reaped c.args.frames) nothing x c.args.self.now new c.self.view_is c.self.invariant (c.in_ok-on_still_answer.ensures ∙ (λ i. broken ((Promise.Refusals, true) ∷ (Promise.Gives, (c.can_come_back-can_come.ensures ∙ ap (λ cs. can_come_back c.args.self.now.left.order cs c.args.frames (state_of c.args.self.now)) (all_pass c.args.self.now.has.caches)) i) ∷ (Promise.Still, c.are_frames_told-is_still.ensures i) ∷ [])))
    (λ kept. reaped 0 c.args.frames nothing x c.reap.new.self c.marks_of_used-used.result c.self.invariant.numbered kept c.reap.ensures c.marks_of_used-used.ensures)
    (same_slots x new _ c.self.invariant c.reap.ensures refl)

pub returns : goal.returns
unfolding due state_after
returns c t w =
    let x : Seen = record { has = c.self.inside.held; left = c.self.inside.left; may_have_empty = c.self.inside.may_have_empty; last_report = c.self.inside.last_report } in
    let new : Seen = record { has = x.has; left = c.reap.new.self; may_have_empty = c.marks_of_used-used.result; last_report = None } in
    followed (On.Tenant t Command.Reap) (Say.Reaped c.args.frames) w x c.args.self.now new c.self.view_is (c.in_ok-on_still_answer.ensures ∙ (λ i. broken ((Promise.Refusals, true) ∷ (Promise.Gives, (c.can_come_back-can_come.ensures ∙ ap (λ cs. can_come_back c.args.self.now.left.order cs c.args.frames (state_of c.args.self.now)) (all_pass c.args.self.now.has.caches)) i) ∷ (Promise.Still, c.are_frames_told-is_still.ensures i) ∷ [])))
    (λ kept. reaped t c.args.frames w x c.reap.new.self c.marks_of_used-used.result c.self.invariant.numbered kept c.reap.ensures c.marks_of_used-used.ensures)
