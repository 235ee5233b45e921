use Rattle.std.proofs.Common.{◌-◌, ◌^◌}
use Rattle.klist_core.specs.Places.{place_at}
use Rattle.klist_core.proofs.Walks.{key_in}
use Rattle.klist_core.proofs.WalkToKey.{IsBehind}
use Rattle.klist_core.proofs.Lists.gap_behind.Given as goal

abbrev pub invariant-loop-next : goal.invariant-loop-next
invariant-loop-next l = IsBehind (place_at l.self.places) l.head l.key l.previous l.next

abbrev pub decreases-loop-next : goal.decreases-loop-next
decreases-loop-next l = 2 ^ 32 - key_in (place_at l.self.places l.previous)
