use Rattle.promise_core.proofs.ReachedStates as reached
use Rattle.promise_core.proofs.laws.live_apart.Goals as goal

pub returns : goal.returns
returns c = reached.live_apart
