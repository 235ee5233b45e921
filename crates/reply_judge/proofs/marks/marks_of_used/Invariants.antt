use Rattle.std.proofs.Common.{◌≡◌, ℕ, ◌<◌, ◌≤◌, false, length, get_or}
use Rattle.promise_core.specs.Holdings.{known_cache}
use Rattle.promise_core.specs.State.{is_in_use}
use Rattle.reply_judge.proofs.marks.marks_of_used.Given as goal

abbrev pub invariant-loop-n : goal.invariant-loop-n
invariant-loop-n l = (l.n ≤ 32) × (length l.marks ≡ 32) × ((k : ℕ) → k < l.n → get_or l.marks k false ≡ is_in_use (known_cache l.held k))
