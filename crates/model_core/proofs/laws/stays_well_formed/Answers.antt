use Rattle.model_core.proofs.WellFormedRuns.{keeps_well_formed, runs_well_formed}
use Rattle.model_core.proofs.laws.stays_well_formed.Goals as goal

pub returns : goal.returns
returns c = record { step = keeps_well_formed; run = runs_well_formed }
