use Rattle.std.proofs.Common.{◌≡◌, true, false, Err, refl, ap, sym, subst, ◌∙◌}
use Rattle.words_core.specs.declared.event.Event.TheVariants as On
use Rattle.words_core.specs.declared.event.AdminCommand.TheVariants as Do
use Rattle.promise_core.specs.declared.promise.Promise.{Promise}
use Rattle.reply_judge.specs.Judged.{failing, IsJudged, verdict_on}
use Rattle.promise_core.specs.Promises.{is_for, allowed}
use Rattle.promise_core.specs.State.{opening_state}
use Rattle.reply_judge.specs.KnownMachine.{SeenMachine, known_of}
use Rattle.reply_judge.proofs.ReplyVerdicts.{unnamed, pool_astray, pool_judged}
use Rattle.reply_judge.proofs.UnchangedVerdicts.{formless}
use Rattle.reply_judge.proofs.MisfitAnswers.{no_pool_table}
use Rattle.reply_judge.proofs.known_machine.KnownMachine.judge_owners.Goals as goal

pub returns-then-not-is_for : goal.returns-then-not-is_for
returns-then-not-is_for c =
    let is = unnamed c.args.event.now c.requires.named in (
      subst (λ e. allowed e c.args.reply.now (known_of c.args.self.now) ≡ Err Promise.Form) (sym is) (pool_astray c.args.reply.now c.args.self.now
          (subst (λ e. is_for e true c.args.reply.now.addressee ≡ false) is (sym c.is_for.ensures ∙ c.if-not-is_for.true))),
      refl,
    )

pub returns-in-Owners : goal.returns-in-Owners
returns-in-Owners c =
    let is = unnamed c.args.event.now c.requires.named in
    subst (λ e. IsJudged e c.args.reply.now c.args.self.now c.args.self.now (failing c.judge_pool.result)) (sym is) (pool_judged c.args.reply.now c.args.self.now c.judge_pool.result (subst (λ e. is_for e true c.args.reply.now.addressee ≡ true) is (sym c.is_for.ensures ∙ c.if-not-is_for.false))
    (c.judge_pool.ensures (known_of c.args.self.now) opening_state ∙ (λ i. verdict_on (On.Admin Do.Pool) (sym c.in-Owners.is i)
    (record (known_of c.args.self.now) { owners = (c.deref.ensures.value ∙ ap (λ (m : SeenMachine). m.owners) c.self.view_is) i }) opening_state)))

pub returns-in_default : goal.returns-in_default
returns-in_default c =
    let is = unnamed c.args.event.now c.requires.named in
    subst (λ e. IsJudged e c.args.reply.now c.args.self.now c.args.self.now (failing (Err Promise.Form))) (sym is) (pool_judged c.args.reply.now c.args.self.now (Err Promise.Form) (subst (λ e. is_for e true c.args.reply.now.addressee ≡ true) is (sym c.is_for.ensures ∙ c.if-not-is_for.false))
    (sym (formless (On.Admin Do.Pool) c.args.reply.now.body (known_of c.args.self.now) opening_state
    (no_pool_table c.args.self.now.order opening_state c.args.reply.now.body c.requires.table c.in_default.not-Owners))))
