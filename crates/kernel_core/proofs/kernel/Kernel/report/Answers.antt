use Rattle.words_core.specs.declared.event.Command.TheVariants as Command
use Rattle.kernel_core.specs.Shows.{Shows}
use Rattle.kernel_core.proofs.CallsAsCommands.{reported}
use Rattle.kernel_core.proofs.KernelToWorld.{unknown_tenant, steps_asked}
use Rattle.kernel_core.proofs.kernel.Kernel.report.Goals as goal

pub returns-in_default : goal.returns-in_default
returns-in_default c = unknown_tenant _ c.args.tenant Command.Report c.in_default.ensures

pub returns : goal.returns
returns c =
    steps_asked _ _ c.in-Some.t c.args.tenant Command.Report _ c.in-Some.ensures.0 c.in-Some.ensures.1 (λ w (shown : Shows c.args.self.now w). shown.agree)
    (reported _ c.in-Some.t c.figures.result c.figures.ensures.machine)
