use Rattle.std.proofs.Common.{ap, ◌∙◌, [], ◌∷◌}
use Rattle.words_core.specs.declared.event.Event.TheVariants as On
use Rattle.words_core.specs.declared.event.AdminCommand.TheVariants as Do
use Rattle.words_core.specs.declared.reply.Body.TheVariants as Say
use Rattle.promise_core.specs.declared.promise.Promise.{Promise}
use Rattle.promise_core.specs.State.{state_after}
use Rattle.reply_judge.specs.Judged.{broken}
use Rattle.reply_judge.proofs.UnchangedVerdicts.{broken_off}
use Rattle.std.specs.Prelude.{is_none}
use Rattle.reply_judge.specs.Seen.{Seen}
use Rattle.reply_judge.proofs.SoundVerdicts.{sound_in, followed}
use Rattle.reply_judge.proofs.KnownAfterCommand.{nothing, changed}
use Rattle.reply_judge.proofs.KnownAfterAdmin.{taken_back, slots_taken, owners_dropped}
use Rattle.reply_judge.proofs.tenant.Tenant.drop_superblock.Goals as goal

pub returns-in_err-on_answer-clause-judged : goal.returns-in_err-on_answer-clause-judged
unfolding state_after
returns-in_err-on_answer-clause-judged c w = broken_off (On.Admin (Do.TakeBack c.args.t c.args.slot)) (Say.TakenBack c.args.superblock) (record w { owners = c.args.owners.now }) c.args.self.now c.in_err-on_answer.field-0.0 c.from_residual.result c.from_residual.ensures.1 (c.in_err-on_answer.ensures ∙ (λ i. broken ((Promise.Refusals, is_none (c.due_of_take_back.ensures c.args.t (record w { owners = c.args.owners.now }) i)) ∷ (Promise.Owners, c.is_owned_by-is_owned.ensures i) ∷ [])))

pub invariant_of-self : goal.invariant_of-self
unfolding state_after
invariant_of-self c =
    let x : Seen = record { has = c.self.inside.held; left = c.self.inside.left; may_have_empty = c.self.inside.may_have_empty; last_report = c.self.inside.last_report } in
    let new : Seen = changed x c.take_back.new.self c.take_back-2.new.self in
    sound_in (On.Admin (Do.TakeBack c.args.t c.args.slot)) (Say.TakenBack c.args.superblock) (record nothing { owners = c.args.owners.now }) x c.args.self.now new c.self.view_is c.self.invariant (c.in_ok-on_answer.ensures ∙ (λ i. broken ((Promise.Refusals, is_none (c.due_of_take_back.ensures c.args.t (record nothing { owners = c.args.owners.now }) i)) ∷ (Promise.Owners, c.is_owned_by-is_owned.ensures i) ∷ [])))
    (λ kept. taken_back c.args.t c.args.slot c.args.superblock (record nothing { owners = c.args.owners.now }) x c.take_back.new.self c.take_back-2.new.self kept c.take_back.ensures c.take_back-2.ensures) (slots_taken x new c.args.slot _ c.self.invariant c.take_back-2.ensures (ap (λ h. h.slots) c.take_back.ensures))

pub returns-clause-judged : goal.returns-clause-judged
unfolding state_after
returns-clause-judged c w =
    let x : Seen = record { has = c.self.inside.held; left = c.self.inside.left; may_have_empty = c.self.inside.may_have_empty; last_report = c.self.inside.last_report } in
    let new : Seen = changed x c.take_back.new.self c.take_back-2.new.self in
    followed (On.Admin (Do.TakeBack c.args.t c.args.slot)) (Say.TakenBack c.args.superblock) (record w { owners = c.args.owners.now }) x c.args.self.now new c.self.view_is (c.in_ok-on_answer.ensures ∙ (λ i. broken ((Promise.Refusals, is_none (c.due_of_take_back.ensures c.args.t (record w { owners = c.args.owners.now }) i)) ∷ (Promise.Owners, c.is_owned_by-is_owned.ensures i) ∷ []))) (λ kept. taken_back c.args.t c.args.slot c.args.superblock (record w { owners = c.args.owners.now }) x c.take_back.new.self c.take_back-2.new.self kept c.take_back.ensures c.take_back-2.ensures)

pub returns-clause-owners : goal.returns-clause-owners
unfolding state_after
returns-clause-owners c = c.give_up_slot.ensures ∙ owners_dropped c.args.t c.args.slot c.args.superblock c.args.owners.now
