-- Limits on the counts of a replay: its events, its faults and the bytes that it wrote.
use Rattle.std.specs.Prelude.{ℕ, ◌*◌, ◌≤◌}
use Rattle.replay_core.specs.Pushes.{most_reply_bytes}

-- There are at most as many events as lines, and at most as many faults as lines. For each line, at most `most_reply_bytes` bytes
-- are written.
pub record IsWithinLines (lines events faults written : ℕ) : Type 0 where
  pub events_few : events ≤ lines
  pub faults_few : faults ≤ lines
  pub written_few : written ≤ most_reply_bytes * lines
