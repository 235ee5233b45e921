use Rattle.world_core.proofs.MoreCaches as caches
use Rattle.world_core.proofs.laws.more_caches.Goals as goal

pub returns : goal.returns
returns c = caches.more_caches
