use Rattle.shadow_memory.specs.Inside.{removed_of}
use Rattle.shadow_memory.specs.Summaries.{IsChanged}
use Rattle.shadow_memory.proofs.change.RemoveChange.change_places.Given as goal

abbrev pub invariant-loop-k : goal.invariant-loop-k
invariant-loop-k g l = IsChanged (removed_of (g.T.HolderPredicate.test l.self.0)) l._first l.low l.k l.fn.cells l.cells
