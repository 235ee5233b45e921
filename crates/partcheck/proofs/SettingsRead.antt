-- The settings and refusals of a parse are those of clap's model for the command line of `partcheck`.
use Rattle.std.proofs.Common.{◌≡◌, ⊎_elim, ◌∙◌, List, [], Some, None, ap, inl, inr, refl, subst, sym, true, codes}
use Rattle.clap.specs.Words.{App, Row, Text, fault_of, first_of, first_value, is_simple, is_simple_and_free, matches_of, one_of, one_text, rows_of, takes}
use Rattle.clap.specs.declared.parser.matches.Found.{Found}
use Rattle.clap.proofs.OnLiterals.{clap_on_literals}
use Rattle.clap.proofs.WalkLemmas.{first_value-rows}
use Rattle.command_line.proofs.MachineOptionsRead.{asks_no_sizes, asks_sizes, one_text-of_rows}
use Rattle.command_line.proofs.ParserRefusals.{parsed_as, refused_as, rows_as}
use Rattle.command_line.specs.MachineOptions.{AsksNoSizes, bad_size_text}
use Rattle.command_line.specs.Outcome.{IsBadLine, IsRefusedBy}
use Rattle.command_line.specs.declared.outcome.Outcome.{Outcome}
use Rattle.partcheck.specs.Settings.{AsksCheck, IsCheckInOrder, IsNoCheck, IsNoFile, check_command_line, check_faults}
use Rattle.partcheck.specs.declared.settings.Settings.{Settings}

-- clap's model covers the command line of `partcheck`
line_is_simple : is_simple check_command_line ≡ true
unfolding clap_on_literals
line_is_simple = refl

line_is_simple_and_free : is_simple_and_free check_command_line ≡ true
unfolding clap_on_literals
line_is_simple_and_free = refl

-- if an App is the one of `partcheck` (`check_command_line`), the rows of its matches are those that clap's model gives
pub check_rows : {P : Type 0} (a : App) (f : Found) (words : List Text) → a ≡ check_command_line
    → (is_simple a ≡ true → (rows_of f ≡ matches_of a words) × P) → rows_of f ≡ matches_of check_command_line words
check_rows a f words same found = rows_as check_command_line a f words line_is_simple same found

pub check_parsed : (a : App) (words : List Text) → a ≡ check_command_line → (is_simple_and_free a ≡ true → fault_of a words ≡ [])
    → check_faults words ≡ []
unfolding check_faults
check_parsed a words same parsed = parsed_as check_command_line a words line_is_simple_and_free same parsed

pub check_refused : (a : App) (words : List Text) (outcome : Outcome) → a ≡ check_command_line
    → (is_simple_and_free a ≡ true → IsRefusedBy (fault_of a words) outcome) → IsRefusedBy (check_faults words) outcome
unfolding check_faults
check_refused a words outcome same refused = refused_as check_command_line a words outcome line_is_simple_and_free same refused

-- if an App is the one of `partcheck`, it takes all words that clap's model takes for `partcheck`
pub check_taken : (a : App) (words : List Text) → a ≡ check_command_line → IsCheckInOrder words → takes a words ≡ true
unfolding IsCheckInOrder
check_taken a words same taken = subst (λ b. takes b words ≡ true) (sym same) taken

-- the first value of an argument in the matches is its first value in their rows
first-of_rows : (f : Found) (rows : List Row) → rows_of f ≡ rows → (name : Text) → first_value f name ≡ first_of name rows
first-of_rows f rows same name = first_value-rows f name ∙ ap (first_of name) same

pub asks_rows : (f : Found) (rows : List Row) (s : Settings) → rows_of f ≡ rows → AsksCheck (one_text f) (first_value f) s
    → AsksCheck (λ name. one_of name rows) (λ name. first_of name rows) s
asks_rows f rows s same asks = record {
  sizes = asks_sizes (one_text f) (λ name. one_of name rows) s.config (one_text-of_rows f rows same) asks.sizes;
  trace = sym (first-of_rows f rows same (codes "TRACE")) ∙ asks.trace;
  replies = sym (first-of_rows f rows same (codes "REPLIES")) ∙ asks.replies;
}

-- if the matches give no valid sizes, their rows give no settings
pub no_sizes_rows : (f : Found) (rows : List Row) (outcome : Outcome) → rows_of f ≡ rows → AsksNoSizes (one_text f) → IsBadLine bad_size_text outcome
    → IsNoCheck (λ name. one_of name rows) (λ name. first_of name rows) outcome
no_sizes_rows f rows outcome same none said =
    inl (asks_no_sizes (one_text f) (λ name. one_of name rows) (one_text-of_rows f rows same) none, said)

no_file_rows : (f : Found) (rows : List Row) (name : Text) (outcome : Outcome) → rows_of f ≡ rows → IsNoFile (first_value f name) outcome
    → IsNoFile (first_of name rows) outcome
no_file_rows f rows name outcome same none = subst (λ path. IsNoFile path outcome) (first-of_rows f rows same name) none

pub no_trace_rows : (f : Found) (rows : List Row) (outcome : Outcome) → rows_of f ≡ rows → IsNoFile (first_value f (codes "TRACE")) outcome
    → IsNoCheck (λ name. one_of name rows) (λ name. first_of name rows) outcome
no_trace_rows f rows outcome same none = inr (inl (no_file_rows f rows (codes "TRACE") outcome same none))

pub no_replies_rows : (f : Found) (rows : List Row) (outcome : Outcome) → rows_of f ≡ rows → IsNoFile (first_value f (codes "REPLIES")) outcome
    → IsNoCheck (λ name. one_of name rows) (λ name. first_of name rows) outcome
no_replies_rows f rows outcome same none = inr (inr (no_file_rows f rows (codes "REPLIES") outcome same none))

-- if the rows request settings, the matches give valid sizes
pub sizes_given : (f : Found) (rows : List Row) (s : Settings) → rows_of f ≡ rows
    → AsksCheck (λ name. one_of name rows) (λ name. first_of name rows) s → AsksNoSizes (one_text f) → ⊥
sizes_given f rows s same asks none =
    none s.config (asks_sizes (λ name. one_of name rows) (one_text f) s.config (λ name. sym (one_text-of_rows f rows same name)) asks.sizes) s.bootable

-- if the rows have a value for the argument that names a file, only a lack of memory can leave the file without a path
file_given : (f : Found) (rows : List Row) (name path : Text) (outcome : Outcome) → rows_of f ≡ rows → first_of name rows ≡ Some path
    → IsNoFile (first_value f name) outcome → outcome ≡ Outcome.NoMemory
file_given f rows name path outcome same named none =
    ⊎_elim (λ missing. let clash : Some path ≡ None = sym named ∙ sym (first-of_rows f rows same name) ∙ missing.0 in cc) (λ full. full) none

pub trace_given : (f : Found) (rows : List Row) (s : Settings) (outcome : Outcome) → rows_of f ≡ rows
    → AsksCheck (λ name. one_of name rows) (λ name. first_of name rows) s → IsNoFile (first_value f (codes "TRACE")) outcome → outcome ≡ Outcome.NoMemory
trace_given f rows s outcome same asks none = file_given f rows (codes "TRACE") _ outcome same asks.trace none

pub replies_given : (f : Found) (rows : List Row) (s : Settings) (outcome : Outcome) → rows_of f ≡ rows
    → AsksCheck (λ name. one_of name rows) (λ name. first_of name rows) s → IsNoFile (first_value f (codes "REPLIES")) outcome → outcome ≡ Outcome.NoMemory
replies_given f rows s outcome same asks none = file_given f rows (codes "REPLIES") _ outcome same asks.replies none
