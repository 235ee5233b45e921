use Rattle.promise_kept.proofs.Cache.{cache_is_kept}
use Rattle.promise_kept.proofs.laws.cache_is_kept.Goals as goal

pub returns : goal.returns
returns c = cache_is_kept
