use Rattle.promise_core.proofs.RefusalCauses.{take_refused_for_cause}
use Rattle.promise_core.proofs.laws.take_refused_for_cause.Goals as goal

pub returns : goal.returns
returns c = take_refused_for_cause
