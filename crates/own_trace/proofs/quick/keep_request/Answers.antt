use Rattle.std.proofs.Common.{◌≡◌, true, false, rules}
use Rattle.own_trace.proofs.OneMoreLine.{line_run, not_kept, kept}
use Rattle.own_trace.proofs.quick.keep_request.Goals as goal

pub returns-then-not-run_request-clause-done : goal.returns-then-not-run_request-clause-done
returns-then-not-run_request-clause-done g c own same read =
    let none : c.run_request.result ≡ false = grind (rules) in
    let ran = c.run_request.ensures in
    not_kept own _ _ _ _ _ (rw same (line_run _ _ _ _ _ _ read ran.sizes ran.shows ran.own)) none

pub returns-clause-done : goal.returns-clause-done
returns-clause-done g c own same read =
    let is_own : c.run_request.result ≡ true = grind (rules) in
    let ran = c.run_request.ensures in
    kept own _ _ _ _ _ _ _ _ _ _ (rw same (line_run _ _ _ _ _ _ read ran.sizes ran.shows ran.own)) is_own c.push_line.ensures.1
