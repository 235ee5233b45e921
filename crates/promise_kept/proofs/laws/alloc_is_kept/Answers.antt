use Rattle.promise_kept.proofs.Alloc.{alloc_is_kept}
use Rattle.promise_kept.proofs.laws.alloc_is_kept.Goals as goal

pub returns : goal.returns
returns c = alloc_is_kept
