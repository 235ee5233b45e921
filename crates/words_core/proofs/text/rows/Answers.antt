use Rattle.std.proofs.Common.{arith}
use Rattle.words_core.proofs.ReportLemmas.{length-report_lines}
use Rattle.words_core.proofs.text.rows.Goals as goal

pub returns-in-Report-clause-count : goal.returns-in-Report-clause-count
returns-in-Report-clause-count c =
    omega (arith, c.len-in-Report.ensures.value, c.len-in-Report-2.ensures.value, length-report_lines c.args.reply.now c.in-Report.report c.in-Report.is)
