use Rattle.klist_core.specs.Lists.{list_of}
use Rattle.model_core.proofs.ObjectsApart.{in_contains, contains_in}
use Rattle.klist_core.proofs.KeyNodePairs.{in_list, listed}
use Rattle.klist_core.proofs.laws.lists_hold_places.Goals as goal

pub returns : goal.returns
returns c = λ places h k i. (
  λ w. in_list places h k i (contains_in (list_of places h) (k, i) w),
  λ e. in_contains (k, i) (list_of places h) (listed places h k i e),
)
