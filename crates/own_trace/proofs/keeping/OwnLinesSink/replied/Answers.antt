use Rattle.std.proofs.Common.{◌≡◌, sym, ap, subst, ◌∙◌}
use Rattle.words_core.specs.declared.event.AdminCommand.TheVariants.{Pool}
use Rattle.words_core.specs.declared.event.Command.TheVariants.{Report}
use Rattle.words_core.specs.declared.event.Event.{Event}
use Rattle.words_core.specs.declared.event.Event.TheVariants.{Tenant, Admin}
use Rattle.words_core.specs.declared.reply.Addressee.TheVariants as To
use Rattle.words_core.specs.declared.reply.Body.TheVariants as Say
use Rattle.words_core.specs.declared.reply.Reply.{Reply}
use Rattle.kernel_core.specs.Steps.{Steps}
use Rattle.replay_core.specs.Rows.{HasRows}
use Rattle.replay_core.proofs.RowLemmas.{only_report, only_pool}
use Rattle.own_trace.proofs.keeping.OwnLinesSink.replied.Goals as goal
use Rattle.own_trace.proofs.keeping.OwnLinesSink.replied.Goals.{in-Tenant, in-Admin}

pub returns-clause-done : goal.returns-clause-done
returns-clause-done g c read = elim c.match-event.branch [
  | in-Tenant w ↦
      let rows = subst HasRows w.in-Tenant.is c.requires.rows in
      let is : Tenant w.in-Tenant.tenant Report ≡ c.args.event.now =
      ap (λ command. Tenant w.in-Tenant.tenant command) (only_report w.in-Tenant.tenant w.in-Tenant.field-1 rows) ∙ sym w.in-Tenant.is in
      let steps = subst (λ (e : Event). Steps c.args.kernel.now e c.args.kernel.now w.report.result) is w.report.ensures in
      c.keep_event.ensures.done _ _ w.report.result (w.refused-is ∙ w.is_refused_by-refused.ensures) read steps
  | in-Admin w ↦
      let reply : Reply = record { addressee = To.Admin; body = Say.Owners (record { items = w.owners-owners.result.now }) } in
      let rows = subst HasRows w.in-Admin.is c.requires.rows in
      let is : Admin Pool ≡ c.args.event.now = ap (λ command. Admin command) (only_pool w.in-Admin.field-0 rows) ∙ sym w.in-Admin.is in
      let steps = subst (λ (e : Event). Steps c.args.kernel.now e c.args.kernel.now reply) is w.owners-owners.ensures.steps in
      c.keep_event.ensures.done _ _ reply w.refused-is read steps
]
