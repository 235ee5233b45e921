use Rattle.std.proofs.Common.{◌≡◌, ℕ, ◌+◌, ◌≤◌, ◌++◌, false, List, length}
use Rattle.replay_core.specs.Pending.{HoldsLine}
use Rattle.streams.specs.Lines.{IsOneLine}
use Rattle.replay_core.specs.Doing.{HasGone}
use Rattle.replay_core.proofs.engine.do_piece.Given as goal

abbrev pub invariant-lines : goal.invariant-lines
invariant-lines g l =
    ((tail : List ℕ) → HoldsLine tail l.fn.pending → IsOneLine tail
    → (held : List ℕ) × HoldsLine held l.pending × IsOneLine held × (length held ≤ length tail)
    × HasGone g.S.Sink.does (l.fn.sink, l.fn.kernel) (tail ++ l.piece) (held ++ l.rest) (g.D.Drain.contents l.fn.drain) (g.D.Drain.contents l.drain) (l.sink, l.kernel))
    × (g.S.Sink.lines_left l.fn.sink + length l.rest ≤ g.S.Sink.lines_left l.sink + length l.piece)
    × (length l.rest ≤ g.S.Sink.lines_left l.sink) × (g.D.Drain.has_failed l.drain ≡ false)

abbrev pub decreases-lines : goal.decreases-lines
decreases-lines g l = length l.rest
