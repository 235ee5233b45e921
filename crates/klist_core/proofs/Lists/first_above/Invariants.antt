use Rattle.std.proofs.Common.{◌+◌}
use Rattle.klist_core.specs.Places.{place_at}
use Rattle.klist_core.specs.Links.{up}
use Rattle.klist_core.proofs.Walks.{IsOnWay, way_left}
use Rattle.klist_core.proofs.Lists.first_above.Given as goal

abbrev pub invariant-loop-next : goal.invariant-loop-next
invariant-loop-next l = IsOnWay up (place_at l.self.places) l.head (up l.key + 1) l.next

abbrev pub decreases-loop-next : goal.decreases-loop-next
decreases-loop-next l = way_left up (place_at l.self.places) l.next
