use Rattle.model_core.proofs.Room.{block_is_promised, alloc_is_promised, take_is_promised}
use Rattle.model_core.proofs.laws.block_is_promised.Goals as goal

pub returns : goal.returns
returns c = record { block = block_is_promised; alloc = alloc_is_promised; take = take_is_promised }
