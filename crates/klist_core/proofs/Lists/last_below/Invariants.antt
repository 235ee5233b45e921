use Rattle.std.proofs.Common.{◌+◌}
use Rattle.klist_core.specs.Places.{place_at}
use Rattle.klist_core.specs.Links.{down}
use Rattle.klist_core.proofs.Walks.{IsOnWay, way_left}
use Rattle.klist_core.proofs.Lists.last_below.Given as goal

abbrev pub invariant-loop-previous : goal.invariant-loop-previous
invariant-loop-previous l = IsOnWay down (place_at l.self.places) l.head (down l.key + 1) l.previous

abbrev pub decreases-loop-previous : goal.decreases-loop-previous
decreases-loop-previous l = way_left down (place_at l.self.places) l.previous
