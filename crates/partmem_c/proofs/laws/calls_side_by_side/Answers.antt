use Rattle.partmem_c.proofs.CallsAnyOrder.{same_calls}
use Rattle.partmem_c.proofs.laws.calls_side_by_side.Goals as goal

pub returns : goal.returns
returns c = same_calls c.actions_side_by_side.ensures.world c.actions_side_by_side.ensures.outcomes c.actions_side_by_side.ensures.sights
