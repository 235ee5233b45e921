use Rattle.std.proofs.Common.{◌≡◌, false, length}
use Rattle.replay_core.proofs.PushLemmas.{HasPushedBut}
use Rattle.replay_core.proofs.replies.push_all.Given as goal

abbrev pub invariant-loop-rest : goal.invariant-loop-rest
invariant-loop-rest g l =
    HasPushedBut (g.D.Drain.contents l.fn.drain) (g.D.Drain.contents l.drain) l.bytes l.rest l.fn.written l.written
    × (g.D.Drain.has_failed l.drain ≡ false)

abbrev pub decreases-loop-rest : goal.decreases-loop-rest
decreases-loop-rest g l = length l.rest
