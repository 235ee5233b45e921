use Rattle.std.proofs.Common.{false, replicate, None, refl, ◌∙◌, true, [], ◌∷◌}
use Rattle.words_core.specs.declared.event.Event.TheVariants as On
use Rattle.words_core.specs.declared.event.AdminCommand.TheVariants as Do
use Rattle.words_core.specs.declared.reply.Body.TheVariants as Say
use Rattle.promise_core.specs.declared.promise.Promise.{Promise}
use Rattle.promise_core.specs.State.{state_after}
use Rattle.reply_judge.specs.Judged.{broken}
use Rattle.reply_judge.proofs.UnchangedVerdicts.{broken_off}
use Rattle.promise_core.specs.Promises.{due}
use Rattle.reply_judge.specs.Seen.{Seen}
use Rattle.reply_judge.proofs.SoundVerdicts.{followed}
use Rattle.known_holdings.proofs.ComputedTests.{same_at}
use Rattle.reply_judge.proofs.KnownAfterAdmin.{emptied, owners_emptied}
use Rattle.reply_judge.proofs.tenant.Tenant.drop_all.Goals as goal

pub returns-in_err-on_answer-clause-judged : goal.returns-in_err-on_answer-clause-judged
unfolding due state_after
returns-in_err-on_answer-clause-judged c w = broken_off (On.Admin (Do.Reset c.args.t)) (Say.WasReset c.args.tenant c.args.superblocks) (record w { owners = c.args.owners.now }) c.args.self.now c.in_err-on_answer.field-0.0 c.from_residual.result c.from_residual.ensures.1 (c.in_err-on_answer.ensures ∙ (λ i. broken ((Promise.Refusals, true) ∷ (Promise.Owners, c.are_counted-is_counted.ensures i) ∷ [])))

pub returns-clause-judged : goal.returns-clause-judged
unfolding due state_after
returns-clause-judged c w =
    let x : Seen = record { has = c.self.inside.held; left = c.self.inside.left; may_have_empty = c.self.inside.may_have_empty; last_report = c.self.inside.last_report } in
    let new : Seen = record { has = c.reset.new.self; left = c.reset-2.new.self; may_have_empty = replicate 32 false; last_report = None } in
    followed (On.Admin (Do.Reset c.args.t)) (Say.WasReset c.args.tenant c.args.superblocks) (record w { owners = c.args.owners.now }) x c.args.self.now new c.self.view_is (c.in_ok-on_answer.ensures ∙ (λ i. broken ((Promise.Refusals, true) ∷ (Promise.Owners, c.are_counted-is_counted.ensures i) ∷ [])))
    (λ kept. emptied c.args.t c.args.tenant c.args.superblocks (record w { owners = c.args.owners.now }) x new kept c.reset.ensures c.reset-2.ensures (λ n. same_at 32 n false) refl)

pub returns-clause-owners : goal.returns-clause-owners
unfolding due state_after
returns-clause-owners c = c.give_up_all.ensures ∙ owners_emptied c.args.t c.args.tenant c.args.superblocks c.args.owners.now
