use Rattle.std.proofs.Common.{◌≡◌, ℕ, ◌+◌, ◌≤◌, List, [], Some, false}
use Rattle.promise_core.specs.State.{Known}
use Rattle.reply_judge.specs.KnownMachine.{ShowsKnown}
use Rattle.trace_check.specs.Finding.{lines_at}
use Rattle.trace_check.specs.Reading.{HasGiven}
use Rattle.trace_check.proofs.CheckLemmas.{IsBehind}
use Rattle.trace_check.proofs.checking.check.Given as goal

abbrev pub invariant-lines : goal.invariant-lines
invariant-lines g l = record {
  given : (trace_text : List ℕ) × (reply_text : List ℕ) × HasGiven l.fn.trace l.trace trace_text × HasGiven l.fn.replies l.replies reply_text
      × ((w : Known) → ShowsKnown l.fn.machine w
      → (now : Known) × ShowsKnown l.machine now × IsBehind w trace_text reply_text l.line l.reply l.trace now × (lines_at l.reply reply_text ≡ Some (reply_text, [])));
  reason : l.shown.reason ≡ l.fn.shown.reason;
  trace_fine : l.trace.failed ≡ false;
  replies_fine : l.replies.failed ≡ false;
  lines : l.trace.room + l.line ≤ l.fn.trace.room;
  replies : l.replies.room + l.reply ≤ l.fn.replies.room;
}

abbrev pub decreases-lines : goal.decreases-lines
decreases-lines g l = l.trace.room
