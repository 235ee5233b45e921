use Rattle.std.proofs.Common.{Some, None, sym, ◌∙◌}
use Rattle.trace_check.specs.Reasons.{report_wrong}
use Rattle.trace_check.proofs.ReasonLemmas.{wrong_figure_told}
use Rattle.trace_check.proofs.figures.report_wrong.Goals as goal

pub returns-in-Some : goal.returns-in-Some
returns-in-Some c w shown =
    wrong_figure_told c.args.machine.now c.args.tenant c.args.report.now (Some c.in-Some.wrong) c.in-Some.ensures
    ∙ (λ i. report_wrong (sym shown i) c.args.tenant c.args.report.now)

pub returns-in-None : goal.returns-in-None
returns-in-None c w shown =
    wrong_figure_told c.args.machine.now c.args.tenant c.args.report.now None c.in-None.ensures
    ∙ (λ i. report_wrong (sym shown i) c.args.tenant c.args.report.now)
