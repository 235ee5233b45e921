use Rattle.std.proofs.Common.{◌≡◌, ◌++◌, take, drop, map}
use Rattle.partmem_c.specs.Figures.{cache_figures}
use Rattle.partmem_c.proofs.figures.put_caches.Given as goal

abbrev pub invariant-loop-at : goal.invariant-loop-at
invariant-loop-at l = l.to ≡ map cache_figures (take l.at l.rows) ++ drop l.at l.fn.to
