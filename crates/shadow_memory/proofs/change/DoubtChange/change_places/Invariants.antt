use Rattle.shadow_memory.specs.Inside.{doubted_of}
use Rattle.shadow_memory.specs.Summaries.{IsChanged}
use Rattle.shadow_memory.proofs.change.DoubtChange.change_places.Given as goal

abbrev pub invariant-loop-k : goal.invariant-loop-k
invariant-loop-k g l = IsChanged (doubted_of (g.T.HolderPredicate.test l.self.0)) l._first l.low l.k l.fn.cells l.cells
