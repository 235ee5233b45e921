use Rattle.klist_core.proofs.OneListChanged.{removal}
use Rattle.klist_core.proofs.laws.removal_changes_one_list.Goals as goal

pub returns : goal.returns
returns c = removal
