use Rattle.std.proofs.Common.{◌≡◌, sym, ap, subst, ◌∙◌}
use Rattle.words_core.specs.Requests.{reply_to}
use Rattle.words_core.specs.declared.event.Event.TheVariants as On
use Rattle.words_core.specs.declared.reply.Addressee.TheVariants.{Admin}
use Rattle.kernel_core.specs.Content.{PartsAgree}
use Rattle.kernel_core.specs.Steps.{Steps, to_admin}
use Rattle.kernel_core.proofs.kernel.Kernel.administer.Goals as goal

pub returns-clause-steps : goal.returns-clause-steps
returns-clause-steps c =
    let agree = c.parts_agree.ensures in
    let steps : Steps c.args.self.now (On.Admin c.args.command.now) c.match-command.self (to_admin c.match-command.result) = elim c.match-command.branch [
      | goal.in-Grant w ↦ rw (w.in-Grant.is, w.self-is, w.result-is) (w.grant-result.ensures.steps (subst PartsAgree w.self-is agree))
      | goal.in-TakeBack w ↦ rw (w.in-TakeBack.is, w.self-is, w.result-is) (w.take_back-result.ensures.steps (subst PartsAgree w.self-is agree))
      | goal.in-Reset w ↦ rw (w.in-Reset.is, w.self-is, w.result-is) (w.reset-result.ensures.steps (subst PartsAgree w.self-is agree))
      | goal.in-Move w ↦ rw (w.in-Move.is, w.self-is, w.result-is) (w.move_slot-result.ensures.steps (subst PartsAgree w.self-is agree))
    ] in
    let told : reply_to Admin c.match-result.result ≡ to_admin c.match-command.result = elim c.match-result.branch [
      | goal.in-Ok w ↦ ap (reply_to Admin) w.result-is ∙ sym (ap to_admin w.in-Ok.is)
      | goal.in-Err w ↦ ap (reply_to Admin) w.result-is ∙ sym (ap to_admin w.in-Err.is)
    ] in
    rw told steps
