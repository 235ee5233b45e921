-- Lines that are run on the held kernel.
use Rattle.std.specs.Prelude.{◌≡◌, ◌≢◌, ℕ, ◌+◌, ◌*◌, ◌==◌, ◌≤◌, nat_lt, ◌&&◌, ◌||◌, Bool, true, false, List, [], ◌++◌, length, drop, if◌then◌else◌, Option, Some, None, Result, Ok, Err}
use Rattle.std.specs.List.{list_any}
use Rattle.words_core.specs.declared.reply.Addressee.{Addressee}
use Rattle.words_core.specs.declared.reply.Body.{Body}
use Rattle.words_core.specs.declared.event.AdminCommand.{AdminCommand}
use Rattle.words_core.specs.declared.event.Event.{Event}
use Rattle.words_core.specs.declared.event.LineFault.{LineFault}
use Rattle.words_core.specs.declared.reply.Reply.{Reply}
use Rattle.world_core.specs.Output.{line_feed}
use Rattle.words_core.specs.Grammar.{reading_of}
use Rattle.words_core.specs.Texts.{text_of}
use Rattle.words_core.specs.declared.text.TheConstants.{MAX_REPLY_BYTES}
use Rattle.kernel_core.specs.Content.{KernelContent}
use Rattle.kernel_core.specs.Steps.{Steps}
use Rattle.streams.specs.Lines.{IsOneLine}
use Rattle.partmem_c.specs.declared.lines.TheConstants.{LINE_BUFFER_BYTES}
use Rattle.partmem_c.specs.declared.status.TheConstants.{DONE, NO_MACHINE, NOT_A_LINE, BUFFER_TOO_SMALL}

abbrev pub has_line_feed : List ℕ → Bool
has_line_feed bytes = list_any (λ b. b == line_feed) bytes

-- a line with this reading requests the table of owners
abbrev pub asks_owners : Result (Option Event) LineFault → Bool
asks_owners (Ok (Some (Event.Admin AdminCommand.Pool))) = true
asks_owners (Ok (Some (Event.Admin (AdminCommand.Grant t)))) = false
asks_owners (Ok (Some (Event.Admin (AdminCommand.TakeBack t slot)))) = false
asks_owners (Ok (Some (Event.Admin (AdminCommand.Reset t)))) = false
asks_owners (Ok (Some (Event.Admin (AdminCommand.Move t slot)))) = false
asks_owners (Ok (Some (Event.Tenant t command))) = false
asks_owners (Ok None) = false
asks_owners (Err fault) = false

-- The buffer is too small for the reply to a line with this reading. Each line needs LINE_BUFFER_BYTES. The table of owners needs
-- MAX_REPLY_BYTES for its first line and for each superblock.
abbrev pub is_too_small : KernelContent → Result (Option Event) LineFault → List ℕ → Bool
is_too_small k reading buffer = nat_lt (length buffer) LINE_BUFFER_BYTES
    || (asks_owners reading && nat_lt (length buffer) (MAX_REPLY_BYTES * (1 + k.superblocks)))

-- the status of a call with a line: the first error that applies, or else DONE
abbrev pub line_status : Option KernelContent → List ℕ → List ℕ → ℕ
line_status None line buffer = NO_MACHINE
line_status (Some k) line buffer =
    if has_line_feed line then NOT_A_LINE else (if is_too_small k (reading_of line) buffer then BUFFER_TOO_SMALL else DONE)

-- A line with this reading was run, and answered by this text. If the line has an event, the kernel ran it. The reply to a faulty
-- line is addressed to nobody. A blank line or a comment has no reply.
abbrev pub AnswersLine : KernelContent → Result (Option Event) LineFault → KernelContent → List ℕ → Type 0
AnswersLine old (Ok (Some event)) new text = (reply : Reply) × Steps old event new reply × (text ≡ text_of reply)
AnswersLine old (Ok None) new text = (new ≡ old) × (text ≡ [])
AnswersLine old (Err fault) new text = (new ≡ old) × (text ≡ text_of (record { addressee = Addressee.Nobody; body = Body.Fault fault }))

-- the buffer is large enough for every reply but a long table of owners
abbrev pub IsWide : List ℕ → Type 0
IsWide buffer = LINE_BUFFER_BYTES ≤ length buffer

-- The text is at the front of `buffer'`, and `written` is the number of its bytes. The rest of the buffer is unchanged.
pub record IsTextWritten (text buffer buffer' : List ℕ) (written : ℕ) : Type 0 where
  pub counted : written ≡ length text
  pub over : buffer' ≡ text ++ drop (length text) buffer

-- a line with this reading was run, and its answer was written to the front of the buffer
abbrev pub PutsAnswer : KernelContent → Result (Option Event) LineFault → KernelContent → List ℕ → List ℕ → ℕ → Type 0
PutsAnswer old reading new buffer buffer' written =
    (text : List ℕ) × AnswersLine old reading new text × IsTextWritten text buffer buffer' written

-- A line with this reading was answered in full, and the result is the number of bytes written. If the result is an error, the
-- buffer was too small, and nothing was done.
abbrev pub PutsOrNot : KernelContent → Result (Option Event) LineFault → KernelContent → List ℕ → List ℕ → Result ℕ ℕ → Type 0
PutsOrNot old reading new buffer buffer' (Ok written) =
    (is_too_small old reading buffer ≡ false) × PutsAnswer old reading new buffer buffer' written
PutsOrNot old reading new buffer buffer' (Err status) =
    (is_too_small old reading buffer ≡ true) × (status ≡ BUFFER_TOO_SMALL) × (new ≡ old) × (buffer' ≡ buffer)

-- the line has no line feed, was run on the kernel, and was answered in full
pub record AnswersWhole (old : KernelContent) (line buffer : List ℕ) (new : KernelContent) (buffer' : List ℕ) (written : ℕ)
    : Type 0 where
  pub text : List ℕ
  pub one : has_line_feed line ≡ false
  pub fits : is_too_small old (reading_of line) buffer ≡ false
  pub answers : AnswersLine old (reading_of line) new text
  pub puts : IsTextWritten text buffer buffer' written

-- the status says that the line has a line feed, or that the buffer is too small for the reply, and nothing was done
pub record IsNotRun (old : KernelContent) (line buffer : List ℕ) (new : KernelContent) (buffer' : List ℕ) (status : ℕ) : Type 0 where
  pub error : status ≢ DONE
  pub due : status ≡ line_status (Some old) line buffer
  pub kernel : new ≡ old
  pub same_buffer : buffer' ≡ buffer

-- the line was answered in full, and the result is the number of bytes written; or it was not run, and the result is the status
abbrev pub AnswersOrNot : KernelContent → List ℕ → List ℕ → KernelContent → List ℕ → Result ℕ ℕ → Type 0
AnswersOrNot old line buffer new buffer' (Ok written) = AnswersWhole old line buffer new buffer' written
AnswersOrNot old line buffer new buffer' (Err status) = IsNotRun old line buffer new buffer' status

-- the line was run on the held kernel, and answered in full
pub record RunsLine (old new : Option KernelContent) (line buffer buffer' : List ℕ) (written : ℕ) : Type 0 where
  pub before : KernelContent
  pub after : KernelContent
  pub text : List ℕ
  pub was : old ≡ Some before
  pub is : new ≡ Some after
  pub one : IsOneLine line
  pub answers : AnswersLine before (reading_of line) after text
  pub puts : IsTextWritten text buffer buffer' written
