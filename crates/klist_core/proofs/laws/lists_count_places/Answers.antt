use Rattle.klist_core.proofs.KeyNodePairs.{lists_count_places}
use Rattle.klist_core.proofs.laws.lists_count_places.Goals as goal

pub returns : goal.returns
returns c = lists_count_places
