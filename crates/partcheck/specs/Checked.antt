-- The exit status of a check, and the meaning of its finding for a trace and replies.
use Rattle.std.specs.Prelude.{◌≡◌, ℕ, List, None}
use Rattle.model_core.specs.declared.config.Config.{Config}
use Rattle.model_core.specs.declared.limits.TheConstants.{MAX_CACHES}
use Rattle.words_core.specs.Cutting.{lines_of_trace}
use Rattle.promise_core.specs.State.{Known, opening}
use Rattle.promise_kept.specs.Written.{IsAllowedText}
use Rattle.trace_check.specs.declared.finding.Finding.{Finding}
use Rattle.trace_check.specs.declared.finding.Unchecked.TheVariants as Not
use Rattle.trace_check.specs.Finding.{finding_of}
use Rattle.trace_check.specs.Laws.{IsBreach}
use Rattle.partcheck.specs.declared.checked.Checked.{Checked}

-- the exit status of a check that ended in this way
abbrev pub status_of_check : Checked → ℕ
status_of_check (Checked.Found (Finding.Kept lines)) = 0
status_of_check (Checked.Found (Finding.Broken breach)) = 4
status_of_check (Checked.Failed Not.Trace error) = 1
status_of_check (Checked.Failed Not.Replies error) = 1
status_of_check (Checked.Failed Not.Memory error) = 3
status_of_check Checked.Unwritten = 1

-- what is known of a machine of these sizes before the first line
abbrev pub opening_of : Config → Known
opening_of config = opening MAX_CACHES config.order config.superblocks config.tenants

-- If the finding is `Kept`, the replies are the text of allowed replies to the trace's events. If it is `Broken`, the replies
-- before the breach are allowed, and the text at the breach does not begin with an allowed reply.
abbrev pub IsSoundFinding : Config → Finding → (trace replies : List ℕ) → Type 0
IsSoundFinding config (Finding.Kept lines) trace replies =
    IsAllowedText None MAX_CACHES config.order config.superblocks config.tenants (lines_of_trace trace) replies
IsSoundFinding config (Finding.Broken breach) trace replies =
    IsBreach MAX_CACHES config.order config.superblocks config.tenants (lines_of_trace trace) replies breach

-- this is the finding for the trace and the replies, and what it says of them is true
abbrev pub IsFindingOf : Config → Finding → (trace replies : List ℕ) → Type 0
IsFindingOf config finding trace replies =
    (finding ≡ finding_of (opening_of config) trace replies) × IsSoundFinding config finding trace replies
