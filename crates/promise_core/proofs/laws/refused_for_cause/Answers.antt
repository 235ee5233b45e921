use Rattle.promise_core.proofs.RefusalCauses.{refused_for_cause}
use Rattle.promise_core.proofs.laws.refused_for_cause.Goals as goal

pub returns : goal.returns
returns c = refused_for_cause
