use Rattle.std.proofs.Common.{ℕ, sym, subst}
use Rattle.words_core.specs.Requests.{reply_of_answer, command_of}
use Rattle.words_core.specs.declared.event.Event.{Event}
use Rattle.words_core.specs.declared.event.Event.TheVariants as On
use Rattle.kernel_core.specs.Steps.{Steps}
use Rattle.replay_core.proofs.answering.ask.Goals as goal

pub returns-in-Some-clause-done : goal.returns-in-Some-clause-done
returns-in-Some-clause-done g c read =
    let asked = rw c.in-Some.is at c.ask.follows.holds-at-none in
    c.answered.ensures.done _ _ read
    (subst (λ (e : Event). Steps c.args.kernel.now e c.ask.follows.lender-at-none (reply_of_answer c.in-Some.t c.in-Some.answer)) (sym c.requires.event)
    (subst (λ (t : ℕ). Steps c.args.kernel.now (On.Tenant c.args.tenant (command_of c.args.request)) c.ask.follows.lender-at-none (reply_of_answer t c.in-Some.answer))
    (sym asked.0) asked.1))

pub returns-in-None-clause-done : goal.returns-in-None-clause-done
returns-in-None-clause-done g c read =
    let asked = rw c.in-None.is at c.ask.follows.holds-at-none in
    c.answered-in-None.ensures.done _ _ read (rw c.requires.event asked)
