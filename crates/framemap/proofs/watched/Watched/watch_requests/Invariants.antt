use Rattle.std.proofs.Common.{ℕ, ◌+◌, ◌≤◌, List, Option, length}
use Rattle.replay_core.specs.Doing.{HasGone}
use Rattle.framemap.specs.Watching.{watches}
use Rattle.framemap.proofs.watched.Watched.watch_requests.Given as goal

abbrev pub invariant-lines : goal.invariant-lines
invariant-lines g l =
    ((known : Option (List ℕ)) → HasGone watches (l.fn.self, l.fn.kernel) l.piece l.rest known known (l.self, l.kernel))
    × (l.self.events + length l.rest ≤ l.fn.self.events + length l.piece)

abbrev pub decreases-lines : goal.decreases-lines
decreases-lines g l = length l.rest
