use Rattle.promise_core.proofs.EveryCommandAnswered.{use_answerable}
use Rattle.promise_core.proofs.laws.use_answerable.Goals as goal

pub returns : goal.returns
returns c = use_answerable
