use Rattle.std.proofs.Common.{ℕ}
use Rattle.klist_core.specs.Lists.{list_of, keys_of}
use Rattle.model_core.proofs.Lists.{in_map}
use Rattle.model_core.proofs.ObjectsApart.{in_contains, contains_in}
use Rattle.klist_core.proofs.KeyNodePairs.{in_list, listed, key_among}
use Rattle.klist_core.proofs.laws.keys_hold_places.Goals as goal

pub returns : goal.returns
returns c = λ places h k. (
  λ w. let i = key_among k (list_of places h) (contains_in (keys_of places h) k w) in (i.0, in_list places h k i.0 i.1),
  λ w. in_contains k (keys_of places h) (in_map (λ (p : ℕ × ℕ). p.0) (k, w.0) (list_of places h) (listed places h k w.0 w.1)),
)
