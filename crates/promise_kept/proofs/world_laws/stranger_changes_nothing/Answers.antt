use Rattle.promise_kept.proofs.WorldSteps.{stranger_event}
use Rattle.promise_kept.proofs.world_laws.stranger_changes_nothing.Goals as goal

pub returns : goal.returns
returns c = stranger_event
