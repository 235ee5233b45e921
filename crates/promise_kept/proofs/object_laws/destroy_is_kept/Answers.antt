use Rattle.promise_kept.proofs.Destroy.{destroy_kept}
use Rattle.promise_kept.proofs.object_laws.destroy_is_kept.Goals as goal

pub returns : goal.returns
returns c = destroy_kept
