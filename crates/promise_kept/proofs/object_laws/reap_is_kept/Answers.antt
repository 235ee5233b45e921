use Rattle.promise_kept.proofs.Reap.{reap_kept}
use Rattle.promise_kept.proofs.object_laws.reap_is_kept.Goals as goal

pub returns : goal.returns
returns c = reap_kept
