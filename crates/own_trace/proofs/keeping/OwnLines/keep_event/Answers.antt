use Rattle.std.proofs.Common.{◌≡◌, true, false, rules}
use Rattle.own_trace.proofs.OneMoreLine.{event_run, not_kept, kept}
use Rattle.own_trace.proofs.keeping.OwnLines.keep_event.Goals as goal

pub returns-then-not-is_own-clause-done : goal.returns-then-not-is_own-clause-done
returns-then-not-is_own-clause-done g c before after reply refused read steps =
    let none : c.is_own.result ≡ false = grind (rules) in
    not_kept _ _ _ _ _ _ (event_run _ _ _ _ _ _ _ read steps (c.is_own.ensures reply.body refused)) none

pub returns-clause-done : goal.returns-clause-done
returns-clause-done g c before after reply refused read steps =
    let own : c.is_own.result ≡ true = grind (rules) in
    kept _ _ _ _ _ _ _ _ _ _ _ (event_run _ _ _ _ _ _ _ read steps (c.is_own.ensures reply.body refused)) own c.push_line.ensures.1
