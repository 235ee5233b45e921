use Rattle.std.proofs.Common.{refl, subst}
use Rattle.words_core.specs.declared.event.Event.TheVariants.{Tenant}
use Rattle.words_core.specs.declared.event.Command.TheVariants as Command
use Rattle.words_core.specs.declared.reply.Addressee.TheVariants as To
use Rattle.words_core.specs.declared.reply.Body.TheVariants.{Report, Refused}
use Rattle.words_core.specs.declared.reply.Refusal.TheVariants.{NoTenant}
use Rattle.kernel_core.specs.Steps.{Steps}
use Rattle.kernel_core.proofs.KernelToWorld.{unknown_tenant}
use Rattle.partmem_c.proofs.events.report.Goals as goal

pub returns-in-Some : goal.returns-in-Some
returns-in-Some c = λ buffer. record {
  reply = record { addressee = To.Tenant c.in-Some.t; body = Report c.figures.result };
  steps = subst (λ u. Steps c.args.kernel.now (Tenant u Command.Report) c.args.kernel.now (record { addressee = To.Tenant c.in-Some.t; body = Report c.figures.result }))
      c.in-Some.ensures.0 c.figures.ensures.steps;
  are = c.numbers_of_report.ensures;
  over = refl;
}

pub returns-in-None : goal.returns-in-None
returns-in-None c = λ buffer. record {
  reply = record { addressee = To.Nobody; body = Refused NoTenant };
  steps = unknown_tenant _ c.args.tenant Command.Report c.in-None.ensures;
  are = c.numbers_of_answer.ensures;
  over = refl;
}
