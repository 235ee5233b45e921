use Rattle.std.proofs.Common.{◌/◌, ap, sym}
use Rattle.space_core.proofs.Space.slot_of.Goals as goal

pub returns : goal.returns
returns c = rw (← c.self.view_is) (ap (λ n. c.args.place / n) (sym c.self.invariant.1.size))
