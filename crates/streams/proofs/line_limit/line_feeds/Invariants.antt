use Rattle.std.proofs.Common.{◌≡◌, ◌+◌, ◌≤◌, ◌==◌, count_by, length}
use Rattle.streams.proofs.line_limit.line_feeds.Given as goal

abbrev pub invariant-lanes : goal.invariant-lanes
invariant-lanes l = record {
  counted : l.count + count_by (λ b. b == 10) l.rest ≡ count_by (λ b. b == 10) l.bytes;
  within : l.count + length l.rest ≤ length l.bytes;
}

abbrev pub decreases-lanes : goal.decreases-lanes
decreases-lanes l = length l.rest
