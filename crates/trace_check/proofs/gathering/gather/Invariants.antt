use Rattle.std.proofs.Common.{◌≡◌, ℕ, ◌+◌, ◌≤◌, List, ◌++◌, false}
use Rattle.trace_check.specs.Checking.{HasGathered}
use Rattle.trace_check.specs.Gathered.{HasAdded}
use Rattle.trace_check.specs.Reading.{HasGiven}
use Rattle.trace_check.specs.declared.shown.TheConstants.{MAX_TEXT_BYTES}
use Rattle.trace_check.proofs.gathering.gather.Given as goal

abbrev pub invariant-lines : goal.invariant-lines
invariant-lines g l = record {
  come : (part : List ℕ) × HasGiven l.fn.replies l.replies part × ((k n : ℕ) (came : List ℕ) → k + l.lines ≡ n → HasGathered k came l.fn.text
      → (now : ℕ) × (now + l.more ≡ n) × HasGathered now (came ++ part) l.text) × HasAdded MAX_TEXT_BYTES part l.fn.text l.text;
  fine : l.replies.failed ≡ false;
  room : l.replies.room + l.lines ≤ l.fn.replies.room + l.more;
}

abbrev pub decreases-lines : goal.decreases-lines
decreases-lines g l = l.more
