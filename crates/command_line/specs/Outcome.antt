-- How a program ends, and what it prints at its end.
use Rattle.std.specs.Prelude.{◌≡◌, ◌≢◌, ◌⊎◌, ℕ, ◌++◌, [], Bool, true, false, codes}
use Rattle.std.specs.Prelude.{Option, Some, None, MatchOption, Result, Ok, Err, MatchResult}
use Rattle.std.specs.Io.KnownBytes.{Appends, Keeps}
use Rattle.std.specs.String.{string_bytes}
use Rattle.clap.specs.declared.error.kind.ErrorKind.{ErrorKind}
use Rattle.clap.specs.Words.{IsAmong, Kinds, Text}
use Rattle.streams.specs.declared.tally.Tally.{Tally}
use Rattle.streams.specs.declared.tally.ReplayError.{ReplayError}
use Rattle.command_line.specs.declared.outcome.Line.{Line}
use Rattle.command_line.specs.declared.outcome.Outcome.{Outcome}

-- the exit status of a program that ends with this outcome
abbrev pub status_of : Outcome → ℕ
status_of Outcome.Unreadable = 1
status_of Outcome.Unwritable = 1
status_of (Outcome.BadLine text) = 2
status_of Outcome.BadOnly = 2
status_of Outcome.NoMemory = 3
status_of Outcome.Done = 0
status_of (Outcome.Help text) = 0
status_of (Outcome.Version text) = 0

-- a line that a program prints: the program's name, and then the text
abbrev pub message : Text → Text → Text
message program text = program ++ (codes ": " ++ text)

abbrev pub line_of : Line → Text
line_of line = message line.program.now line.text.now

-- the line on standard error, if the outcome has a fixed one; `unread` and `unwritten` are the program's texts for input that
-- could not be read and for output that could not be written
abbrev pub outcome_text : (program unread unwritten : Text) → Outcome → Option Text
outcome_text program unread unwritten Outcome.Unreadable = Some (message program unread)
outcome_text program unread unwritten Outcome.Unwritable = Some (message program unwritten)
outcome_text program unread unwritten Outcome.BadOnly = Some (message program (codes "--only names no tenant"))
outcome_text program unread unwritten Outcome.NoMemory = Some (message program (codes "not enough memory"))
outcome_text program unread unwritten Outcome.Done = None
outcome_text program unread unwritten (Outcome.Help text) = None
outcome_text program unread unwritten (Outcome.Version text) = None
outcome_text program unread unwritten (Outcome.BadLine text) = None

-- the outcome of a run whose replay had this result
abbrev pub outcome_of : Result Tally ReplayError → Outcome
outcome_of (Ok tally) = Outcome.Done
outcome_of (Err (ReplayError.Feed tally)) = Outcome.Unreadable
outcome_of (Err (ReplayError.Drain tally)) = Outcome.Unwritable

-- The outcome after the output was flushed. The first failure decides. A failed send (`unsent`) came before a failed feed, and a
-- failed flush comes last.
abbrev pub after_flush : Outcome → (unsent flushed : Bool) → Outcome
after_flush Outcome.Done unsent true = Outcome.Done
after_flush Outcome.Done unsent false = Outcome.Unwritable
after_flush Outcome.Unreadable true flushed = Outcome.Unwritable
after_flush Outcome.Unreadable false flushed = Outcome.Unreadable
after_flush (Outcome.Help text) unsent flushed = Outcome.Help text
after_flush (Outcome.Version text) unsent flushed = Outcome.Version text
after_flush Outcome.Unwritable unsent flushed = Outcome.Unwritable
after_flush (Outcome.BadLine text) unsent flushed = Outcome.BadLine text
after_flush Outcome.BadOnly unsent flushed = Outcome.BadOnly
after_flush Outcome.NoMemory unsent flushed = Outcome.NoMemory

-- a program may end with this outcome if the parser refuses the words with an error of this kind
abbrev pub IsReportedAs : ErrorKind → Outcome → Type 0
IsReportedAs kind (Outcome.Help text) = kind ≡ ErrorKind.DisplayHelp
IsReportedAs kind (Outcome.Version text) = kind ≡ ErrorKind.DisplayVersion
IsReportedAs kind (Outcome.BadLine text) = (kind ≢ ErrorKind.DisplayHelp) × (kind ≢ ErrorKind.DisplayVersion) × (kind ≢ ErrorKind.OutOfMemory)
IsReportedAs kind Outcome.NoMemory = Unit {0}
IsReportedAs kind Outcome.Done = ⊥
IsReportedAs kind Outcome.Unreadable = ⊥
IsReportedAs kind Outcome.Unwritable = ⊥
IsReportedAs kind Outcome.BadOnly = ⊥

-- one of these kinds is a fault of the words, not a request for help or for the version
abbrev pub HasFault : Kinds → Type 0
HasFault kinds = (kind : ErrorKind) × IsAmong kind kinds × (kind ≢ ErrorKind.DisplayHelp) × (kind ≢ ErrorKind.DisplayVersion)

-- a program may end with this outcome if the parser refuses the words with an error of one of these kinds; `NoMemory` is always
-- possible
abbrev pub IsRefusedBy : Kinds → Outcome → Type 0
IsRefusedBy kinds (Outcome.Help text) = IsAmong ErrorKind.DisplayHelp kinds
IsRefusedBy kinds (Outcome.Version text) = IsAmong ErrorKind.DisplayVersion kinds
IsRefusedBy kinds (Outcome.BadLine text) = HasFault kinds
IsRefusedBy kinds Outcome.NoMemory = Unit {0}
IsRefusedBy kinds Outcome.Done = ⊥
IsRefusedBy kinds Outcome.Unreadable = ⊥
IsRefusedBy kinds Outcome.Unwritable = ⊥
IsRefusedBy kinds Outcome.BadOnly = ⊥

-- if the words are parsed, the list of kinds is empty; if they are refused, the outcome is possible for an error of these kinds
abbrev pub IsParsedBy : {T : Type 0} → Kinds → Result T Outcome → Type 0
IsParsedBy kinds parsed = MatchResult parsed (λ _. kinds ≡ []) (IsRefusedBy kinds)

-- the command line is faulty and this is the message, or there was no memory for the message
abbrev pub IsBadLine : Text → Outcome → Type 0
IsBadLine said (Outcome.BadLine text) = string_bytes text ≡ said
IsBadLine said Outcome.NoMemory = Unit {0}
IsBadLine said Outcome.Done = ⊥
IsBadLine said (Outcome.Help text) = ⊥
IsBadLine said (Outcome.Version text) = ⊥
IsBadLine said Outcome.Unreadable = ⊥
IsBadLine said Outcome.Unwritable = ⊥
IsBadLine said Outcome.BadOnly = ⊥

-- the message for a word that is not UTF-8
abbrev pub not_utf8_text : Text
not_utf8_text = codes "error: invalid UTF-8 was detected in one or more arguments\n"

-- a command line may be refused with this outcome
abbrev pub IsRefusal : Outcome → Type 0
IsRefusal (Outcome.Help text) = Unit {0}
IsRefusal (Outcome.Version text) = Unit {0}
IsRefusal (Outcome.BadLine text) = Unit {0}
IsRefusal Outcome.BadOnly = Unit {0}
IsRefusal Outcome.NoMemory = Unit {0}
IsRefusal Outcome.Done = ⊥
IsRefusal Outcome.Unreadable = ⊥
IsRefusal Outcome.Unwritable = ⊥

-- the text for standard output that was requested instead of a run
abbrev pub requested_text : Outcome → Option Text
requested_text (Outcome.Help text) = Some (string_bytes text)
requested_text (Outcome.Version text) = Some (string_bytes text)
requested_text Outcome.Done = None
requested_text Outcome.Unreadable = None
requested_text Outcome.Unwritable = None
requested_text (Outcome.BadLine text) = None
requested_text Outcome.BadOnly = None
requested_text Outcome.NoMemory = None

-- How a program ends if its command line was refused, with its output before and after. If a text was requested, either all of it
-- is written and the outcome stays the same, or the outcome is `Unwritable`. If no text was requested, nothing is written, and
-- the outcome stays the same.
abbrev pub IsHandedOut : (refused ended : Outcome) → (before after : Option Text) → Type 0
IsHandedOut refused ended before after = MatchOption (requested_text refused)
    ((ended ≡ refused) × Keeps before after)
    (λ text. ((ended ≡ refused) × Appends before after text) ⊎ (ended ≡ Outcome.Unwritable))
