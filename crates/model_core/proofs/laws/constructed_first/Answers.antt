use Rattle.model_core.proofs.ConstructedRuns.{constructed_first, constructed_when_taken}
use Rattle.model_core.proofs.laws.constructed_first.Goals as goal

pub returns : goal.returns
returns c = record { untaken = constructed_first; taken = constructed_when_taken }
