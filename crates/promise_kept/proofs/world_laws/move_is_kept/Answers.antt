use Rattle.promise_kept.proofs.WorldSteps.{move_event}
use Rattle.promise_kept.proofs.world_laws.move_is_kept.Goals as goal

pub returns : goal.returns
returns c = move_event
