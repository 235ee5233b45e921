use Rattle.world_core.proofs.Operations.{entries_are_operations}
use Rattle.world_core.proofs.laws.entries_are_operations.Goals as goal

pub returns : goal.returns
returns c = entries_are_operations
