use Rattle.promise_kept.proofs.WorldSteps.{reset_event}
use Rattle.promise_kept.proofs.world_laws.reset_is_kept.Goals as goal

pub returns : goal.returns
returns c = reset_event
