use Rattle.std.proofs.Common.{refl, arith}
use Rattle.words_core.proofs.ReportLemmas.{length-report_lines}
use Rattle.words_core.proofs.TextLemmas.{length-lines_of}
use Rattle.words_core.specs.Requests.{reply_of_table}
use Rattle.words_core.proofs.text.Table.rows.Goals as goal

pub returns-in-Report-clause-count : goal.returns-in-Report-clause-count
returns-in-Report-clause-count c =
    omega (arith, c.len.ensures.value, c.len-in-Report.ensures.value, length-report_lines (reply_of_table c.args.self) c.in-Report.report.now (rw c.in-Report.is refl))

pub returns-in-Owners-clause-count : goal.returns-in-Owners-clause-count
returns-in-Owners-clause-count c =
    length-lines_of (reply_of_table c.args.self) (record { items = c.in-Owners.owners.now }) (rw c.in-Owners.is refl)
