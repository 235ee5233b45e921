use Rattle.std.proofs.Common.{◌≡◌, ℕ}
use Rattle.buddy_core.specs.SummaryWords.{sets_of, IsSummary}
use Rattle.buddy_core.proofs.SetsNoted.{ArePartlyNoted}
use Rattle.buddy_core.proofs.summaries.Summary.note.Given as goal

abbrev pub decreases-loop-changed : goal.decreases-loop-changed
decreases-loop-changed l = l.changed

abbrev pub invariant-loop-changed : goal.invariant-loop-changed
invariant-loop-changed l =
    (slots : ℕ) → IsSummary slots l.initial.filled l.initial.words → sets_of slots l.initial.filled l.initial.words ≡ l.fn.self
    → ArePartlyNoted slots l.fn.self l.slot l.old l.new l.changed l.filled l.words
