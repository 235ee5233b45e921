use Rattle.std.proofs.Common.{◌≡◌, ℕ, ◌≤◌, List, ◌++◌, true, false, length}
use Rattle.streams.specs.Lines.{IsOneLine}
use Rattle.trace_check.specs.Gathered.{Gathers}
use Rattle.trace_check.specs.Reading.{HasGiven}
use Rattle.trace_check.proofs.HeldLemmas.{held_source}
use Rattle.trace_check.proofs.reader.LineReader.next.Given as goal

abbrev pub invariant-loop-at : goal.invariant-loop-at
invariant-loop-at g l =
    (passed : List ℕ) × IsOneLine passed
    × HasGiven l.fn.self (held_source l.self-inside.piece l.self-inside.start l.self-inside.end (g.F.Feed.remaining l.self-inside.feed)
    (g.F.Feed.room_left l.self-inside.feed) (g.F.Feed.has_ended l.self-inside.feed) (g.F.Feed.has_failed l.self-inside.feed)) passed
    × ((front : List ℕ) → Gathers g.row.N front l.fn.into → Gathers g.row.N (front ++ passed) l.into)
    × (l.self-inside.start ≤ l.self-inside.end) × (l.self-inside.end ≤ length l.self-inside.piece)
    × (g.F.Feed.has_ended l.self-inside.feed ≡ true → l.self-inside.start ≡ l.self-inside.end)
    × (g.F.Feed.has_failed l.self-inside.feed ≡ false)

abbrev pub decreases-loop-at : goal.decreases-loop-at
decreases-loop-at g l = g.F.Feed.room_left l.self-inside.feed
