use Rattle.std.proofs.Common.{refl, false}
use Rattle.own_trace.proofs.OneMoreLine.{nothing_run, not_kept}
use Rattle.own_trace.proofs.keeping.OwnLinesSink.blank.Goals as goal

pub returns-clause-done : goal.returns-clause-done
returns-clause-done c line kernel known read = not_kept _ line _ _ known false (nothing_run _ line kernel _ read refl) refl
