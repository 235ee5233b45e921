use Rattle.std.proofs.Common.{refl, false}
use Rattle.own_trace.proofs.OneMoreLine.{nothing_run, not_kept}
use Rattle.own_trace.proofs.keeping.OwnLinesSink.faulty.Goals as goal

pub returns-clause-done : goal.returns-clause-done
returns-clause-done g c line kernel read front = not_kept _ line _ _ _ false (nothing_run _ line kernel _ read refl) refl
