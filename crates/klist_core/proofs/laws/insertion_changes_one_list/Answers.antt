use Rattle.klist_core.proofs.OneListChanged.{insertion}
use Rattle.klist_core.proofs.laws.insertion_changes_one_list.Goals as goal

pub returns : goal.returns
returns c = insertion
