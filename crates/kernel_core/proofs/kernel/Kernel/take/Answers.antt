use Rattle.std.proofs.Common.{sym, ap, ◌∙◌}
use Rattle.words_core.specs.Refusals.{take_refusal}
use Rattle.words_core.specs.declared.event.Command.TheVariants as Command
use Rattle.words_core.specs.declared.reply.Body.TheVariants.{Object}
use Rattle.world_core.specs.PrivateStep.{take_body}
use Rattle.kernel_core.specs.Content.{content_of}
use Rattle.kernel_core.specs.Steps.{StepsMachine}
use Rattle.kernel_core.proofs.CacheCalls.{taken}
use Rattle.kernel_core.proofs.CallsAsCommands.{passed}
use Rattle.kernel_core.proofs.kernel.Kernel.take.Goals as goal
use Rattle.kernel_core.proofs.kernel.Kernel.take.Goals.{After-take}

tried : (c : After-take) → StepsMachine (content_of c.self.inside.space c.self.inside.buddy c.self.inside.slabs) c.args.t (Command.Take c.args.cache)
    (content_of c.take.new.space c.take.new.buddy c.take.new.self) (take_body c.take.result)
tried c =
    taken _ _ _ _ _ _ c.args.t c.self.invariant c.take.ensures.spares c.args.cache c.take.result c.take.ensures.answer c.take.ensures.shows c.take.ensures.refused

pub returns-in_err-take-clause-steps : goal.returns-in_err-take-clause-steps
returns-in_err-take-clause-steps c = rw (passed Object take_refusal _ _ c.from_residual.ensures.1 ∙ sym (ap take_body c.in_err-take.was), ← c.self.view_is)
    (tried (goal.at.returns-in_err-take-clause-steps c).After-take)

pub returns-clause-steps : goal.returns-clause-steps
returns-clause-steps c = rw (← ap take_body c.in_ok-take.was, ← c.self.view_is) (tried (goal.at.returns-clause-steps c).After-take)
