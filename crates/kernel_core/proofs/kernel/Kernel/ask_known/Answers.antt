use Rattle.std.proofs.Common.{refl}
use Rattle.words_core.specs.Requests.{command_of}
use Rattle.kernel_core.proofs.KernelToWorld.{steps_asked}
use Rattle.kernel_core.proofs.kernel.Kernel.ask_known.Goals as goal

pub returns : goal.returns
returns c =
    let done = c.run.follows.holds-at-none in (
      (refl, λ _. tt, steps_asked _ _ c.args.t c.args.t (command_of c.args.request) _ refl c.requires.tenant (λ _ _. done.agree c.parts_agree.ensures) done.steps),
      record { asked = tt; few = c.run.ensures.few; bytes = c.run.ensures.bytes },
    )
