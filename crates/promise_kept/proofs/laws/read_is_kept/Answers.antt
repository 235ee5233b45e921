use Rattle.promise_kept.proofs.Read.{read_is_kept}
use Rattle.promise_kept.proofs.laws.read_is_kept.Goals as goal

pub returns : goal.returns
returns c = read_is_kept
