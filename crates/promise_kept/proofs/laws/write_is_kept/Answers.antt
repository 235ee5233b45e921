use Rattle.promise_kept.proofs.Write.{write_is_kept}
use Rattle.promise_kept.proofs.laws.write_is_kept.Goals as goal

pub returns : goal.returns
returns c = write_is_kept
