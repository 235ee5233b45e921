use Rattle.slab_core.proofs.ReturnEmptySlabs.{IsGivingBelow}
use Rattle.slab_core.proofs.Slabs.give_back_all.Given as goal

abbrev pub invariant-loop-c : goal.invariant-loop-c
invariant-loop-c l = IsGivingBelow l.initial.space l.space l.initial.buddy l.buddy l.initial.self l.self l.t l.c
