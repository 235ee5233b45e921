use Rattle.std.proofs.Common.{◌≡◌, true, false, None, Err, refl, sym, subst, ◌∙◌}
use Rattle.words_core.specs.Requests.{body_of_answer, reply_to}
use Rattle.words_core.specs.declared.event.Event.TheVariants as On
use Rattle.words_core.specs.declared.event.AdminCommand.TheVariants as Do
use Rattle.promise_core.specs.declared.promise.Promise.{Promise}
use Rattle.promise_core.specs.Promises.{is_for, allowed, due}
use Rattle.reply_judge.specs.KnownMachine.{known_of}
use Rattle.reply_judge.specs.Seen.{state_of}
use Rattle.reply_judge.specs.Judged.{IsJudged, IsVerdictFor}
use Rattle.reply_judge.specs.declared.verdict.Failure.TheVariants as Of
use Rattle.reply_judge.proofs.ReplyVerdicts.{unnamed, pool_astray, pool_answered}
use Rattle.reply_judge.proofs.UnchangedVerdicts.{refused, misfit}
use Rattle.reply_judge.proofs.MisfitAnswers.{unfit}
use Rattle.reply_judge.proofs.known_machine.KnownMachine.judge_unnamed.Goals as goal

pub returns-then-not-is_for : goal.returns-then-not-is_for
returns-then-not-is_for c =
    let is = unnamed c.args.event.now c.requires in (
      subst (λ e. allowed e (reply_to c.args.addressee c.args.answer.now) (known_of c.args.self.now) ≡ Err Promise.Form) (sym is) (pool_astray (reply_to c.args.addressee c.args.answer.now) c.args.self.now
          (subst (λ e. is_for e true c.args.addressee ≡ false) is (sym c.is_for.ensures ∙ c.if-not-is_for.true))),
      refl,
    )

pub returns-in-Refused : goal.returns-in-Refused
unfolding due
returns-in-Refused c =
    let is = unnamed c.args.event.now c.requires in
    subst (λ e. IsJudged e (reply_to c.args.addressee c.args.answer.now) c.args.self.now c.args.self.now c.on_refusal.result) (sym is) (pool_answered (reply_to c.args.addressee c.args.answer.now) c.args.self.now c.on_refusal.result
    (subst (λ e. is_for e true c.args.addressee ≡ true) is (sym c.is_for.ensures ∙ c.if-not-is_for.false))
    (λ w x. subst (λ a. IsVerdictFor (On.Admin Do.Pool) (body_of_answer a) w x x c.on_refusal.result) (sym c.in-Refused.is)
    (refused (On.Admin Do.Pool) c.in-Refused.refusal w x c.on_refusal.result None false false c.on_refusal.ensures refl refl refl)))

pub returns-in_default : goal.returns-in_default
returns-in_default c =
    let is = unnamed c.args.event.now c.requires in
    subst (λ e. IsJudged e (reply_to c.args.addressee c.args.answer.now) c.args.self.now c.args.self.now (Err (Of.Broken Promise.Form))) (sym is) (pool_answered (reply_to c.args.addressee c.args.answer.now) c.args.self.now (Err (Of.Broken Promise.Form))
    (subst (λ e. is_for e true c.args.addressee ≡ true) is (sym c.is_for.ensures ∙ c.if-not-is_for.false))
    (λ w x. misfit (On.Admin Do.Pool) (body_of_answer c.args.answer.now) w x (unfit (On.Admin Do.Pool) c.args.answer.now (λ x. x) x.left.order (state_of x) c.in_default.not-Refused)))
