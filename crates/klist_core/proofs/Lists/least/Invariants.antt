use Rattle.klist_core.specs.Places.{place_at}
use Rattle.klist_core.proofs.LeastKeySearch.{IsLeastUntil}
use Rattle.klist_core.proofs.Lists.least.Given as goal

abbrev pub invariant-loop-node : goal.invariant-loop-node
invariant-loop-node l = IsLeastUntil (place_at l.self.places) l.head l.node l.bound l.least
