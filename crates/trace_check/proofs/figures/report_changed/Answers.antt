use Rattle.std.proofs.Common.{Some, None, sym, ◌∙◌}
use Rattle.trace_check.specs.Reasons.{report_changed}
use Rattle.trace_check.proofs.ReasonLemmas.{changed_told}
use Rattle.trace_check.proofs.figures.report_changed.Goals as goal

pub returns-in-Some : goal.returns-in-Some
returns-in-Some c w shown =
    changed_told c.args.machine.now c.args.tenant c.args.report.now (Some c.in-Some.wrong) c.in-Some.ensures
    ∙ (λ i. report_changed (sym shown i) c.args.tenant c.args.report.now)

pub returns-in-None : goal.returns-in-None
returns-in-None c w shown =
    changed_told c.args.machine.now c.args.tenant c.args.report.now None c.in-None.ensures
    ∙ (λ i. report_changed (sym shown i) c.args.tenant c.args.report.now)
