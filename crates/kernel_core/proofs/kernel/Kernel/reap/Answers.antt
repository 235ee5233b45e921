use Rattle.std.proofs.Common.{refl}
use Rattle.std.proofs.lemmas.Bool.{false≢true}
use Rattle.model_core.specs.CacheOperations.{reap_step}
use Rattle.words_core.specs.declared.event.Command.TheVariants as Command
use Rattle.words_core.specs.declared.reply.Body.TheVariants.{Reaped}
use Rattle.world_core.specs.PrivateStep.{command_step}
use Rattle.kernel_core.proofs.CallsAsCommands.{called}
use Rattle.kernel_core.proofs.kernel.Kernel.reap.Goals as goal

pub returns : goal.returns
unfolding command_step
returns c =
    rw (← c.self.view_is) (called _ _ _ _ _ _ c.args.t c.reap.ensures.spares Command.Reap (λ frames. Reaped frames) reap_step c.reap.result (λ m. refl)
    c.reap.ensures.answer c.reap.ensures.shows (λ is. absurd (false≢true is)))
