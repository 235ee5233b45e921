use Rattle.model_core.proofs.FreeBlocks.{reserved_is_untaken}
use Rattle.model_core.proofs.block_laws.reserved_is_untaken.Goals as goal

pub returns : goal.returns
returns c = reserved_is_untaken
