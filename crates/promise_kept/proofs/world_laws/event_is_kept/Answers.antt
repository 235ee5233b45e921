use Rattle.promise_kept.proofs.WorldSteps.{event_kept}
use Rattle.promise_kept.proofs.world_laws.event_is_kept.Goals as goal

pub returns : goal.returns
returns c = event_kept
