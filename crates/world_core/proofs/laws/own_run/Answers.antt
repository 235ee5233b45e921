use Rattle.world_core.proofs.laws.own_run.Goals as goal
use Rattle.world_core.proofs.OwnListRuns as runs

pub returns : goal.returns
returns c = runs.own_run
