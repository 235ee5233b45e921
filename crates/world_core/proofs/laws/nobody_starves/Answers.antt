use Rattle.world_core.proofs.ReachedBlock.{reached_block, reached_object, nobody_starves}
use Rattle.world_core.proofs.laws.nobody_starves.Goals as goal

pub returns : goal.returns
returns c = record { block = reached_block; object = reached_object; world = nobody_starves }
