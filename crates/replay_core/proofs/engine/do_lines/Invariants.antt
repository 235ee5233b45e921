use Rattle.std.proofs.Common.{◌≡◌, ◌+◌, ◌≤◌, false, List, ℕ, length}
use Rattle.std.specs.Io.KnownBytes.{Consumes}
use Rattle.replay_core.specs.Pending.{HoldsLine}
use Rattle.streams.specs.Lines.{IsOneLine}
use Rattle.replay_core.specs.Doing.{HasGone}
use Rattle.replay_core.proofs.engine.do_lines.Given as goal

abbrev pub invariant-pulls : goal.invariant-pulls
invariant-pulls g l =
    (given : List ℕ) × (tail : List ℕ) × Consumes (g.F.Feed.remaining l.fn.feed) (g.F.Feed.remaining l.feed) given
    × (g.F.Feed.room_left l.feed + length given ≡ g.F.Feed.room_left l.fn.feed)
    × HoldsLine tail l.pending × IsOneLine tail
    × (g.F.Feed.room_left l.feed + length tail ≤ g.S.Sink.lines_left l.sink)
    × HasGone g.S.Sink.does (l.fn.sink, l.fn.kernel) given tail (g.D.Drain.contents l.fn.drain) (g.D.Drain.contents l.drain) (l.sink, l.kernel)
    × (g.F.Feed.has_failed l.feed ≡ false) × (g.D.Drain.has_failed l.drain ≡ false)

abbrev pub decreases-pulls : goal.decreases-pulls
decreases-pulls g l = g.F.Feed.room_left l.feed
