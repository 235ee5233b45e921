use Rattle.model_core.proofs.FreeBlocks.{each_frame_in_one, splits}
use Rattle.model_core.proofs.BuddyJoins.{joins}
use Rattle.model_core.proofs.block_laws.splits_and_joins.Goals as goal

pub returns-clause-one_block : goal.returns-clause-one_block
returns-clause-one_block c = each_frame_in_one

pub returns-clause-splits : goal.returns-clause-splits
returns-clause-splits c = splits

pub returns-clause-joins : goal.returns-clause-joins
returns-clause-joins c = joins
