use Rattle.std.proofs.Common.{arith}
use Rattle.klist_core.proofs.Lists.nearer_end.Goals as goal

pub returns-in_err-last : goal.returns-in_err-last
returns-in_err-last c = rw c.from_residual-in_err-last.ensures (record { is = λ i k e. let below = c.in_err-last.ensures.is i k e in omega arith })
