use Rattle.promise_kept.proofs.Give.{give_kept}
use Rattle.promise_kept.proofs.object_laws.give_is_kept.Goals as goal

pub returns : goal.returns
returns c = give_kept
