-- The beginning of a line whose end has not arrived.
use Rattle.std.specs.Prelude.{◌≡◌, ℕ, ◌≤◌, nat_lt, List, length, take}
use Rattle.replay_core.specs.declared.pending.Pending.{Pending}

-- `held` has the first 256 bytes of the line, and `longer` is true if the line has more bytes
pub record HoldsLine (line : List ℕ) (pending : Pending) : Type 0 where
  pub front : pending.held.items ≡ take 256 line
  pub longer : pending.longer ≡ nat_lt 256 (length line)

-- the front is the whole line, or begins with the first 256 bytes of a line that is too long
pub record IsFrontOf (line front : List ℕ) : Type 0 where
  pub same : take 256 front ≡ take 256 line
  pub whole : length line ≤ 256 → front ≡ line
