use Rattle.std.proofs.Common.{◌&&◌, [], ◌∷◌, Some, ap, sym, ◌∙◌, slice_set}
use Rattle.promise_core.specs.declared.promise.Promise.{Promise}
use Rattle.promise_core.specs.State.{state_after}
use Rattle.reply_judge.specs.Judged.{broken}
use Rattle.reply_judge.proofs.UnchangedVerdicts.{broken_off}
use Rattle.std.specs.Prelude.{is_none}
use Rattle.words_core.specs.declared.event.Event.TheVariants as On
use Rattle.words_core.specs.declared.event.AdminCommand.TheVariants as Do
use Rattle.words_core.specs.declared.reply.Body.TheVariants as Say
use Rattle.reply_judge.proofs.KnownAfterCommand.{nothing}
use Rattle.reply_judge.proofs.KnownAfterAdmin.{owner_moved, moved}
use Rattle.model_core.specs.Owners.{owned_by}
use Rattle.reply_judge.proofs.tenant.Tenant.put_over.Goals as goal

pub returns-in_err-on_answer-clause-judged : goal.returns-in_err-on_answer-clause-judged
unfolding state_after
returns-in_err-on_answer-clause-judged c w = broken_off (On.Admin (Do.Move c.args.t c.args.slot)) (Say.Moved c.args.tenant c.args.named c.args.superblock) (record w { owners = c.args.owners.now }) c.args.self.now c.in_err-on_answer.field-0.0 c.from_residual.result c.from_residual.ensures.1 (c.in_err-on_answer.ensures ∙ (λ i. broken ((Promise.Refusals, is_none (c.due_of_move.ensures c.args.t w i)) ∷ (Promise.Owners, (c.both-is_right.ensures ∙ (λ j. c.is_slot_named-is_named.ensures j && c.is_unowned.ensures j)) i) ∷ [])))

pub returns-clause-judged : goal.returns-clause-judged
unfolding state_after
returns-clause-judged c w = moved c.args.t c.args.slot c.args.tenant c.args.named c.args.superblock (record w { owners = c.args.owners.now }) c.args.self.now (sym (c.in_ok-on_answer.ensures ∙ (λ i. broken ((Promise.Refusals, is_none (c.due_of_move.ensures c.args.t w i)) ∷ (Promise.Owners, (c.both-is_right.ensures ∙ (λ j. c.is_slot_named-is_named.ensures j && c.is_unowned.ensures j)) i) ∷ []))))

pub returns-clause-owners : goal.returns-clause-owners
unfolding state_after
returns-clause-owners c = c.set_owner.ensures
    ∙ (ap (λ os. slice_set os c.args.superblock (Some (owned_by c.args.tenant c.args.named))) c.give_up_slot.ensures
    ∙ owner_moved c.args.t c.args.slot c.args.tenant c.args.named c.args.superblock (record nothing { owners = c.args.owners.now }) c.args.self.now c.args.owners.now (sym (c.in_ok-on_answer.ensures ∙ (λ i. broken ((Promise.Refusals, is_none (c.due_of_move.ensures c.args.t nothing i)) ∷ (Promise.Owners, (c.both-is_right.ensures ∙ (λ j. c.is_slot_named-is_named.ensures j && c.is_unowned.ensures j)) i) ∷ [])))))
