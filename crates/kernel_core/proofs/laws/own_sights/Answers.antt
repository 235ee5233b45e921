use Rattle.kernel_core.proofs.Actions.{own_sights, same_sights}
use Rattle.kernel_core.proofs.laws.own_sights.Goals as goal

pub returns : goal.returns
returns c = record { own = own_sights; same = same_sights }
