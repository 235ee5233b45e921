use Rattle.promise_kept.proofs.WorldSteps.{pool_event}
use Rattle.promise_kept.proofs.world_laws.pool_is_kept.Goals as goal

pub returns : goal.returns
returns c = pool_event
