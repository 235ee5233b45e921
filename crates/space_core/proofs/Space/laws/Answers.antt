use Rattle.space_core.proofs.SpaceLaws.{laws_of}
use Rattle.space_core.proofs.Space.laws.Goals as goal

pub returns : goal.returns
returns c = rw (← c.self.view_is) (laws_of c.self.invariant.0)
