use Rattle.promise_kept.proofs.WorldSteps.{back_event}
use Rattle.promise_kept.proofs.world_laws.take_back_is_kept.Goals as goal

pub returns : goal.returns
returns c = back_event
