use Rattle.std.proofs.Common.{refl, arith}
use Rattle.words_core.specs.Texts.{text_of}
use Rattle.words_core.specs.declared.event.Command.TheVariants.{Report}
use Rattle.words_core.specs.declared.reply.Addressee.TheVariants.{Nobody}
use Rattle.words_core.specs.declared.reply.Body.TheVariants.{Refused}
use Rattle.words_core.specs.declared.reply.Refusal.TheVariants.{NoTenant}
use Rattle.words_core.specs.declared.reply.Reply.{Reply}
use Rattle.kernel_core.proofs.KernelToWorld.{unknown_tenant}
use Rattle.partmem_c.proofs.FitLemmas.{report_counted}
use Rattle.partmem_c.proofs.lines.put_report.Goals as goal

pub returns-in_default : goal.returns-in_default
returns-in_default c =
    let reply : Reply = record { addressee = Nobody; body = Refused NoTenant } in
    (text_of reply, (reply, unknown_tenant _ c.args.tenant Report c.in_default.ensures, refl), c.put_no_tenant.ensures)

pub put_table-requires-clause-buffer : goal.put_table-requires-clause-buffer
put_table-requires-clause-buffer c =
    omega (arith, c.requires, report_counted c.in-Some.t c.figures-report.result, c.len-orders.ensures, c.len-caches.ensures)
