-- The settings that a command line of `partcheck` requests, in terms of clap's model.
use Rattle.std.specs.Prelude.{◌≡◌, ◌⊎◌, true, if◌then◌else◌, List, [], Option, Some, None, codes, unwrap_or}
use Rattle.std.specs.Str.{bytes_eq}
use Rattle.std.specs.String.{string_bytes}
use Rattle.clap.specs.Words.{App, Kinds, Rule, Text, fault_of, first_of, matches_of, one_of, takes, with_rule}
use Rattle.command_line.specs.Arguments.{positional_rule, sizes_command}
use Rattle.command_line.specs.MachineOptions.{AsksNoSizes, AsksSizes, bad_size_text}
use Rattle.command_line.specs.Outcome.{IsBadLine, IsRefusedBy}
use Rattle.command_line.specs.declared.outcome.Outcome.{Outcome}
use Rattle.partcheck.specs.declared.settings.Settings.{Settings}
use Rattle.trace_check.specs.declared.finding.Unchecked.{Unchecked}

-- the path of the trace; None if it is `-`, which means standard input
abbrev pub trace_file : Settings → Option Text
trace_file settings = if bytes_eq (string_bytes settings.trace) (codes "-") then None else Some (string_bytes settings.trace)

-- the name of the file that could not be read, if a check ended for this reason; for `Memory` it is the name of the trace
abbrev pub file_without : Settings → Unchecked → Text
file_without settings Unchecked.Replies = string_bytes settings.replies
file_without settings Unchecked.Trace = unwrap_or (trace_file settings) (codes "standard input")
file_without settings Unchecked.Memory = unwrap_or (trace_file settings) (codes "standard input")

-- The settings are the values of the arguments. Both functions take the name of an argument: `read` returns the text of a size,
-- and `whole` returns the path of a file.
pub record AsksCheck (read whole : Text → Option Text) (settings : Settings) : Type 0 where
  pub sizes : AsksSizes read settings.config
  pub trace : whole (codes "TRACE") ≡ Some (string_bytes settings.trace)
  pub replies : whole (codes "REPLIES") ≡ Some (string_bytes settings.replies)

-- the rule of an argument that is a required file
abbrev pub file_rule : Text → Rule
file_rule name = record (positional_rule name) { required = true }

abbrev pub check_command_line : App
check_command_line =
    with_rule (with_rule (sizes_command (codes "partcheck")) (file_rule (codes "TRACE"))) (file_rule (codes "REPLIES"))

-- the settings are what clap finds in these words
abbrev pub IsCheckRequestedBy : List Text → Settings → Type 0
IsCheckRequestedBy words settings = let rows = matches_of check_command_line words in
    AsksCheck (λ name. one_of name rows) (λ name. first_of name rows) settings

-- clap's model accepts these words
unfoldable pub IsCheckInOrder : List Text → Type 0
IsCheckInOrder words = takes check_command_line words ≡ true

-- why the path of a file is not found: the argument is missing, or memory runs out
abbrev pub IsNoFile : Option Text → Outcome → Type 0
IsNoFile path outcome =
    ((path ≡ None) × IsBadLine (codes "error: TRACE and REPLIES are required\n") outcome) ⊎ (outcome ≡ Outcome.NoMemory)

-- why the values of the arguments give no settings: a size is missing or out of its range, or the path of a file is not found
abbrev pub IsNoCheck : (read whole : Text → Option Text) → Outcome → Type 0
IsNoCheck read whole outcome =
    (AsksNoSizes read × IsBadLine bad_size_text outcome) ⊎ IsNoFile (whole (codes "TRACE")) outcome ⊎ IsNoFile (whole (codes "REPLIES")) outcome

-- the kinds of error for which clap's model refuses these words, or none if it accepts them
unfoldable pub check_faults : List Text → Kinds
check_faults words = fault_of check_command_line words

-- why these words are refused: clap's model refuses them, or it accepts them, but their values give no settings
abbrev pub IsCheckRefusedFor : List Text → Outcome → Type 0
IsCheckRefusedFor words outcome = let rows = matches_of check_command_line words in
    IsRefusedBy (check_faults words) outcome
    ⊎ ((check_faults words ≡ []) × IsNoCheck (λ name. one_of name rows) (λ name. first_of name rows) outcome)
