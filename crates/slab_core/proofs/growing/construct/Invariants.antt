use Rattle.slab_core.specs.Calls.{IsConstructed}
use Rattle.slab_core.proofs.growing.construct.Given as goal

abbrev pub invariant-loop-i : goal.invariant-loop-i
invariant-loop-i l = IsConstructed l.fn.space l.space l.cache.tenant l.cache.kept.now l.first l.colour l.i
