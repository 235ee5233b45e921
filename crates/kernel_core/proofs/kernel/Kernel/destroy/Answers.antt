use Rattle.std.proofs.Common.{refl, sym, ap, ◌∙◌}
use Rattle.model_core.specs.CacheOperations.{destroy_step}
use Rattle.words_core.specs.Refusals.{destroy_refusal}
use Rattle.words_core.specs.declared.event.Command.TheVariants as Command
use Rattle.words_core.specs.declared.reply.Body.TheVariants.{Destroyed}
use Rattle.world_core.specs.PrivateStep.{command_step, destroy_body}
use Rattle.kernel_core.specs.Content.{content_of}
use Rattle.kernel_core.specs.Steps.{StepsMachine}
use Rattle.kernel_core.proofs.CallsAsCommands.{called, by_err, passed}
use Rattle.kernel_core.proofs.kernel.Kernel.destroy.Goals as goal
use Rattle.kernel_core.proofs.kernel.Kernel.destroy.Goals.{After-destroy}

tried : (c : After-destroy) → StepsMachine (content_of c.self.inside.space c.self.inside.buddy c.self.inside.slabs) c.args.t (Command.Destroy c.args.cache)
    (content_of c.destroy.new.space c.destroy.new.buddy c.destroy.new.self) (destroy_body c.destroy.result)
unfolding command_step
tried c =
    called _ _ _ _ _ _ c.args.t c.destroy.ensures.spares (Command.Destroy c.args.cache) destroy_body (destroy_step c.args.cache) c.destroy.result (λ m. refl)
    c.destroy.ensures.answer c.destroy.ensures.shows (by_err destroy_body c.destroy.result (λ done. refl) c.destroy.ensures.refused)

pub returns-in_err-destroy : goal.returns-in_err-destroy
returns-in_err-destroy c = rw (passed Destroyed destroy_refusal _ _ c.from_residual.ensures.1 ∙ sym (ap destroy_body c.in_err-destroy.was), ← c.self.view_is)
    (tried (goal.at.returns-in_err-destroy c).After-destroy)

pub returns : goal.returns
returns c = rw (← ap destroy_body c.in_ok-destroy.was, ← c.self.view_is) (tried (goal.at.returns c).After-destroy)
