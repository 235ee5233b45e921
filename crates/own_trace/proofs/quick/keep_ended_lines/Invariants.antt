use Rattle.std.proofs.Common.{◌≡◌, ◌≤◌, false, length}
use Rattle.replay_core.specs.Doing.{HasGone}
use Rattle.own_trace.specs.declared.keeping.OwnLines.{OwnLines}
use Rattle.own_trace.specs.Keeping.{keeps}
use Rattle.own_trace.proofs.quick.keep_ended_lines.Given as goal

abbrev pub invariant-lines : goal.invariant-lines
invariant-lines g l =
    ((own : OwnLines) → own.tenant ≡ l.tenant
    → HasGone keeps (own, l.fn.kernel) l.piece l.rest (g.D.Drain.contents l.fn.drain) (g.D.Drain.contents l.drain) (own, l.kernel))
    × (length l.rest ≤ length l.piece) × (g.D.Drain.has_failed l.drain ≡ false)

abbrev pub decreases-lines : goal.decreases-lines
decreases-lines g l = length l.rest
