use Rattle.std.proofs.Common.{ℕ, ◌<◌, ◌≤◌, get_or}
use Rattle.frame_picture.proofs.drawing.greatest_at.Given as goal

-- `greatest` is the first index of the greatest count so far
abbrev pub invariant-loop-at : goal.invariant-loop-at
invariant-loop-at l =
    (l.greatest < l.at)
    × ((k : ℕ) → k < l.at → get_or l.counts k 0 ≤ get_or l.counts l.greatest 0)
    × ((k : ℕ) → k < l.greatest → get_or l.counts k 0 < get_or l.counts l.greatest 0)
