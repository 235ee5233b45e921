use Rattle.std.proofs.Common.{◌≡◌, ◌++◌, take, drop, map}
use Rattle.partmem_c.specs.Figures.{order_figures}
use Rattle.partmem_c.proofs.figures.put_orders.Given as goal

abbrev pub invariant-loop-at : goal.invariant-loop-at
invariant-loop-at l = l.to ≡ map order_figures (take l.at l.rows) ++ drop l.at l.fn.to
