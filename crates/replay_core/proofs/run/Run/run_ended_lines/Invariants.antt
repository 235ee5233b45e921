use Rattle.std.proofs.Common.{◌≡◌, ◌+◌, ◌^◌, ◌<◌, ◌≤◌, false, length}
use Rattle.replay_core.specs.Doing.{HasGone}
use Rattle.replay_core.specs.Standing.{answers}
use Rattle.replay_core.proofs.run.Run.run_ended_lines.Given as goal

abbrev pub invariant-lines : goal.invariant-lines
invariant-lines g l =
    HasGone (answers g.N.Notes.noting) (l.fn.self, l.fn.kernel) l.piece l.rest (g.D.Drain.contents l.fn.drain) (g.D.Drain.contents l.drain) (l.self, l.kernel)
    × (l.self.lines + length l.rest ≤ l.fn.self.lines + length l.piece) × (l.self.lines + length l.rest < 2 ^ 64)
    × (length l.rest ≤ length l.piece) × (g.D.Drain.has_failed l.drain ≡ false)

abbrev pub decreases-lines : goal.decreases-lines
decreases-lines g l = length l.rest
