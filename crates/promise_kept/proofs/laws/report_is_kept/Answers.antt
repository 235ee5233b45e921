use Rattle.promise_kept.proofs.Report.{report_kept}
use Rattle.promise_kept.proofs.laws.report_is_kept.Goals as goal

pub returns : goal.returns
returns c = report_kept
