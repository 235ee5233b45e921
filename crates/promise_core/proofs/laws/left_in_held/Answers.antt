use Rattle.promise_core.proofs.ReachedStates as reached
use Rattle.promise_core.proofs.laws.left_in_held.Goals as goal

pub returns : goal.returns
returns c = reached.left_in_held
