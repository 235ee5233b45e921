use Rattle.std.proofs.Common.{refl, subst, ◌∙◌}
use Rattle.words_core.specs.declared.event.Event.TheVariants.{Tenant}
use Rattle.words_core.specs.declared.event.Command.TheVariants as Command
use Rattle.words_core.specs.declared.reply.Addressee.TheVariants as To
use Rattle.words_core.specs.declared.reply.Body.TheVariants.{Report, Refused}
use Rattle.words_core.specs.declared.reply.Refusal.TheVariants.{NoTenant}
use Rattle.kernel_core.specs.Steps.{Steps}
use Rattle.kernel_core.proofs.KernelToWorld.{unknown_tenant}
use Rattle.partmem_c.proofs.figures.put_figures.Goals as goal

pub returns-in_default : goal.returns-in_default
returns-in_default c = record {
  reply = record { addressee = To.Nobody; body = Refused NoTenant };
  steps = unknown_tenant _ c.args.tenant Command.Report c.in_default.ensures;
  returns = c.from.ensures ∙ c.number.ensures;
  are = c.requires;
}

pub returns : goal.returns
returns c = record {
  reply = record { addressee = To.Tenant c.in-Some.t; body = Report c.figures.result };
  steps = subst (λ u. Steps c.args.kernel.now (Tenant u Command.Report) c.args.kernel.now (record { addressee = To.Tenant c.in-Some.t; body = Report c.figures.result }))
      c.in-Some.ensures.0 c.figures.ensures.steps;
  returns = refl;
  are = c.put_report.ensures;
}
