use Rattle.std.proofs.Common.{refl, sym, ap, ◌∙◌}
use Rattle.model_core.specs.CacheOperations.{give_step}
use Rattle.words_core.specs.Refusals.{give_refusal}
use Rattle.words_core.specs.declared.event.Command.TheVariants as Command
use Rattle.words_core.specs.declared.reply.Body.TheVariants.{Given}
use Rattle.world_core.specs.PrivateStep.{command_step, give_body}
use Rattle.kernel_core.specs.Content.{content_of}
use Rattle.kernel_core.specs.Steps.{StepsMachine}
use Rattle.kernel_core.proofs.CallsAsCommands.{called, by_err, passed}
use Rattle.kernel_core.proofs.kernel.Kernel.give.Goals as goal
use Rattle.kernel_core.proofs.kernel.Kernel.give.Goals.{After-give}

tried : (c : After-give) → StepsMachine (content_of c.self.inside.space c.self.inside.buddy c.self.inside.slabs) c.args.t (Command.Give c.args.cache c.args.place)
    (content_of c.give.new.space c.self.inside.buddy c.give.new.self) (give_body c.give.result)
unfolding command_step
tried c =
    called _ _ _ _ _ _ c.args.t c.give.ensures.spares (Command.Give c.args.cache c.args.place) give_body (give_step c.args.cache c.args.place) c.give.result (λ m. refl)
    c.give.ensures.answer c.give.ensures.shows (λ is. let same = by_err give_body c.give.result (λ done. refl) c.give.ensures.refused is in (same.0, (refl, same.1)))

pub returns-in_err-give : goal.returns-in_err-give
returns-in_err-give c = rw (passed (λ done. Given) give_refusal _ _ c.from_residual.ensures.1 ∙ sym (ap give_body c.in_err-give.was), ← c.self.view_is)
    (tried (goal.at.returns-in_err-give c).After-give)

pub returns : goal.returns
returns c = rw (← ap give_body c.in_ok-give.was, ← c.self.view_is) (tried (goal.at.returns c).After-give)
