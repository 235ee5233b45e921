use Rattle.promise_core.proofs.Confined as bytes
use Rattle.promise_core.proofs.laws.confined.Goals as goal

pub returns : goal.returns
returns c = bytes.confined
