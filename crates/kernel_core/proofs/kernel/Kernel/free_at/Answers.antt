use Rattle.std.proofs.Common.{ℕ, ◌/◌, Result, subst, arith}
use Rattle.words_core.specs.declared.event.Command.TheVariants as Command
use Rattle.words_core.specs.declared.reply.Body.TheVariants.{Freed}
use Rattle.words_core.specs.declared.reply.Refusal.{Refusal}
use Rattle.kernel_core.specs.Steps.{StepsMachine, body_of}
use Rattle.kernel_core.proofs.Releases.{page_freed}
use Rattle.kernel_core.proofs.kernel.Kernel.free_at.Goals as goal

pub returns : goal.returns
returns c sizes =
    let k = c.args.self.now in
    let t = c.args.t in
    let place = c.args.place in
    page_freed k t place sizes c.free.new.self c.in-Ok.order c.min.result
    (record { together = c.laws.ensures.together; tenant = omega (arith, c.requires, c.laws.ensures.agree.holdings) })
    (omega (arith, c.if-place-ne0.false)) c.min.ensures
    (subst (λ (r : Result ℕ Refusal). StepsMachine k t (Command.Free (place / 4096)) c.free.new.self (body_of Freed r)) c.in-Ok.is c.free.ensures)
