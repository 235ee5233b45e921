use Rattle.promise_kept.proofs.WorldSteps.{grant_event}
use Rattle.promise_kept.proofs.world_laws.grant_is_kept.Goals as goal

pub returns : goal.returns
returns c = grant_event
