use Rattle.promise_kept.proofs.Free.{free_is_kept}
use Rattle.promise_kept.proofs.laws.free_is_kept.Goals as goal

pub returns : goal.returns
returns c = free_is_kept
