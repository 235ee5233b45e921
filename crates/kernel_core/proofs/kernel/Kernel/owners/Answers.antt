use Rattle.std.proofs.Common.{ap, ◌∙◌}
use Rattle.kernel_core.specs.Content.{KernelContent}
use Rattle.kernel_core.proofs.Resetting.{steps_told}
use Rattle.kernel_core.proofs.kernel.Kernel.owners.Goals as goal

pub returns-clause-steps : goal.returns-clause-steps
returns-clause-steps c = steps_told c.args.self.now c.owners.result.now (c.owners.ensures ∙ ap (λ (k : KernelContent). k.space.owners) c.self.view_is)
