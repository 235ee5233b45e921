use Rattle.std.proofs.Common.{[], Ok, inl, inr, refl, ap, subst, ◌∙◌}
use Rattle.std.proofs.lemmas.Result.{IfOk-from_err, IfOk-weaker}
use Rattle.trace_check.specs.declared.finding.Finding.{Finding}
use Rattle.trace_check.specs.Reasons.{IsNoted}
use Rattle.trace_check.proofs.Ending.{ended_so, ran_out}
use Rattle.trace_check.proofs.ReadingLemmas.{gives_nothing}
use Rattle.partcheck.specs.Checked.{IsFindingOf, opening_of}
use Rattle.partcheck.proofs.FindingOfNewMachine.{finds, found_so, known_texts, still_shown}
use Rattle.partcheck.proofs.run.run.Goals as goal

pub returns-in_err-machine-clause-found : goal.returns-in_err-machine-clause-found
returns-in_err-machine-clause-found g c = ([], [], gives_nothing _, gives_nothing _, IfOk-from_err _ _ c.from_residual.ensures.0, IfOk-from_err _ _ c.from_residual.ensures.0)

pub returns-in_err-machine-clause-end : goal.returns-in_err-machine-clause-end
returns-in_err-machine-clause-end g c =
    ran_out c.from_residual.result _ _ _ c.from_residual.ensures.1 c.requires.trace_fine c.requires.replies_fine (inl (refl, refl))

pub returns-clause-found : goal.returns-clause-found
returns-clause-found g c =
    let given = c.check-found.ensures.found in (
      given.0,
      given.1,
      given.2,
      given.3,
      IfOk-weaker c.check-found.result _ _ (λ finding so more later may might.
          finds c.kept_is_allowed.ensures c.broken_is_not_allowed.ensures c.args.config finding _ _ (so more later may might))
          (given.4 (opening_of c.args.config) c.in_ok-machine.ensures),
      found_so c.check-found.result _ _ (λ finding is so.
          still_shown (opening_of c.args.config) finding given.0 given.1 c.check-found.new.shown c.note_reason.new.shown _ _
          c.note_reason.ensures.line c.note_reason.ensures.reply
          (λ breach line reply now broken read shows. subst (λ old. IsNoted breach.promise line reply now old c.note_reason.new.shown.reason) c.check-found.ensures.reason
          (c.note_reason.ensures.reason breach line reply now (is ∙ ap (λ (f : Finding). Ok f) broken) read shows)) so)
          (given.5 (opening_of c.args.config) c.in_ok-machine.ensures),
    )

pub returns-clause-known : goal.returns-clause-known
returns-clause-known g c trace_text reply_text trace_is reply_is =
    let given = c.check-found.ensures.found in
    IfOk-weaker c.check-found.result _ _ (λ finding so. known_texts (IsFindingOf c.args.config finding) given.2 given.3
    (λ more later may might. finds c.kept_is_allowed.ensures c.broken_is_not_allowed.ensures c.args.config finding _ _ (so more later may might))
    trace_text reply_text trace_is reply_is) (given.4 (opening_of c.args.config) c.in_ok-machine.ensures)

pub returns-clause-end : goal.returns-clause-end
returns-clause-end g c =
    ended_so c.check-found.result _ _ _ _
    (λ adds. inr (adds.0, adds.1, adds.2, adds.3, adds.4 (opening_of c.args.config) c.in_ok-machine.ensures)) c.check-found.ensures.end
