-- The meaning of a finding for the texts of a trace and of its replies.
use Rattle.std.specs.Prelude.{◌≡◌, ℕ, ◌+◌, ◌==◌, List, [], ◌∷◌, ◌++◌, length, take, count_by, Option, Some, None, Result, Ok, Err}
use Rattle.words_core.specs.Cutting.{lines_of_trace}
use Rattle.words_core.specs.Grammar.{reading_of}
use Rattle.words_core.specs.Texts.{text_of}
use Rattle.words_core.specs.declared.event.Event.{Event}
use Rattle.words_core.specs.declared.event.LineFault.{LineFault}
use Rattle.words_core.specs.declared.reply.Reply.{Reply}
use Rattle.promise_core.specs.Promises.{allowed}
use Rattle.promise_core.specs.State.{Known, opening}
use Rattle.promise_kept.specs.Written.{IsAllowedText}
use Rattle.trace_check.specs.declared.finding.Breach.{Breach}
use Rattle.trace_check.specs.declared.finding.Finding.TheVariants.{Kept, Broken}
use Rattle.trace_check.specs.Finding.{fault_reply, finding_of}
use Rattle.trace_check.specs.Ranges.{Fits}

-- if the finding is `Kept`, the replies are a text of allowed replies to the lines of the trace, from the opening state on
abbrev pub KeptIsAllowed : Type 0
KeptIsAllowed = (limit order superblocks tenants lines : ℕ) (trace replies : List ℕ)
    → finding_of (opening limit order superblocks tenants) trace replies ≡ Kept lines
    → IsAllowedText None limit order superblocks tenants (lines_of_trace trace) replies

-- The bytes do not begin with the text of an allowed reply to a line with this reading. `Fits` holds for every value of the type
-- `Reply` in the code.
abbrev pub HasNoReply : Result (Option Event) LineFault → List ℕ → Known → Type 0
HasNoReply (Ok None) bytes w = ⊥
HasNoReply (Err fault) bytes w = (rest : List ℕ) → bytes ≡ text_of (fault_reply fault) ++ rest → ⊥
HasNoReply (Ok (Some event)) bytes w = (reply : Reply) (rest : List ℕ) (after : Known)
    → Fits reply → bytes ≡ text_of reply ++ rest → allowed event reply w ≡ Ok after → ⊥

-- the bytes do not begin with an allowed reply to the first of these lines; if there is no line, there are still bytes
abbrev pub IsWrong : List (List ℕ) → List ℕ → Known → Type 0
IsWrong [] bytes w = bytes ≡ [] → ⊥
IsWrong (line ∷ lines) bytes w = HasNoReply (reading_of line) bytes w

-- the replies begin with a text that is allowed for the lines before the breach, and what follows this text is wrong
pub record IsBreach (limit order superblocks tenants : ℕ) (lines : List (List ℕ)) (replies : List ℕ) (breach : Breach) : Type 0 where
  pub before : List (List ℕ)
  pub left : List (List ℕ)
  pub lines_are : lines ≡ before ++ left
  pub front : List ℕ
  pub rest : List ℕ
  pub replies_are : replies ≡ front ++ rest
  pub kept : IsAllowedText None limit order superblocks tenants before front
  pub wrong : IsWrong left rest kept.after
  pub line : breach.line ≡ length before + length (take 1 left)
  pub reply : breach.reply ≡ count_by (λ b. b == 10) front + 1

-- if the finding is a breach, the replies before it are allowed, and the text at the breach does not begin with an allowed reply
abbrev pub BrokenIsNotAllowed : Type 0
BrokenIsNotAllowed = (limit order superblocks tenants : ℕ) (trace replies : List ℕ) (breach : Breach)
    → finding_of (opening limit order superblocks tenants) trace replies ≡ Broken breach
    → IsBreach limit order superblocks tenants (lines_of_trace trace) replies breach
