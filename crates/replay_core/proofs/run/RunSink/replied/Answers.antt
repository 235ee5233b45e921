use Rattle.std.proofs.Common.{◌≡◌, refl, sym, ap, subst, ◌∙◌}
use Rattle.words_core.specs.declared.event.AdminCommand.TheVariants.{Pool}
use Rattle.words_core.specs.declared.event.Command.TheVariants as Command
use Rattle.words_core.specs.declared.event.Event.{Event}
use Rattle.words_core.specs.declared.event.Event.TheVariants.{Tenant, Admin}
use Rattle.words_core.specs.declared.reply.Addressee.TheVariants as To
use Rattle.words_core.specs.declared.reply.Body.TheVariants as Say
use Rattle.words_core.specs.declared.reply.Refusal.TheVariants.{NoTenant}
use Rattle.words_core.specs.declared.reply.Reply.{Reply}
use Rattle.world_core.specs.Output.{is_shown}
use Rattle.kernel_core.specs.Steps.{Steps}
use Rattle.kernel_core.proofs.KernelToWorld.{unknown_tenant}
use Rattle.replay_core.specs.Rows.{HasRows}
use Rattle.replay_core.proofs.RunLemmas.{event_done, noted_same}
use Rattle.replay_core.proofs.RowLemmas.{only_report, only_pool}
use Rattle.replay_core.proofs.run.RunSink.replied.Goals as goal

pub returns-in-None-clause-done : goal.returns-in-None-clause-done
returns-in-None-clause-done g c read =
    let reply : Reply = record { addressee = To.Nobody; body = Say.Refused NoTenant } in
    let steps = subst (λ (e : Event). Steps c.args.kernel.now e c.args.kernel.now reply) (sym c.in-Tenant.is)
    (unknown_tenant c.args.kernel.now c.in-Tenant.tenant c.in-Tenant.field-1 c.in-None.ensures) in
    event_done _ _ _ _ _ _ _ _ _ _ _ _ read steps c.show_to.ensures.shown refl refl refl c.show_to.ensures.noted

pub returns-in-Some-clause-done : goal.returns-in-Some-clause-done
returns-in-Some-clause-done g c read =
    let reply : Reply = record { addressee = To.Tenant c.in-Some.t; body = Say.Report c.figures.result } in
    let rows = subst HasRows c.in-Tenant.is c.requires.rows in
    let is : Tenant c.in-Some.t Command.Report ≡ c.args.event.now =
    ap (λ t. Tenant t Command.Report) c.in-Some.ensures.0
    ∙ ap (λ command. Tenant c.in-Tenant.tenant command) (only_report c.in-Tenant.tenant c.in-Tenant.field-1 rows) ∙ sym c.in-Tenant.is in
    let steps = subst (λ (e : Event). Steps c.args.kernel.now e c.args.kernel.now reply) is c.figures.ensures.steps in
    event_done _ _ _ _ _ _ _ _ _ _ _ _ read steps c.show_table-in-Some.ensures refl refl refl
    (sym (noted_same (is_shown c.args.self.now.replies.only (To.Tenant c.in-Some.t)) c.args.self.now.notes))

pub returns-in_default-clause-done : goal.returns-in_default-clause-done
returns-in_default-clause-done g c read =
    let reply : Reply = record { addressee = To.Admin; body = Say.Owners (record { items = c.owners.result.now }) } in
    let rows = subst HasRows c.in_default.is c.requires.rows in
    let is : Admin Pool ≡ c.args.event.now = ap (λ command. Admin command) (only_pool c.in_default.field-0 rows) ∙ sym c.in_default.is in
    let steps = subst (λ (e : Event). Steps c.args.kernel.now e c.args.kernel.now reply) is c.owners.ensures.steps in
    event_done _ _ _ _ _ _ _ _ _ _ _ _ read steps c.show_table.ensures refl refl refl
    (sym (noted_same (is_shown c.args.self.now.replies.only To.Admin) c.args.self.now.notes))
