-- The outcomes of a refusal by the parser. Equal commands have the same matches, faults and refusals.
use Rattle.std.proofs.Common.{◌≡◌, ◌⊎◌, ⊎_elim, List, [], true, ap, sym, ◌∙◌, subst}
use Rattle.clap.specs.Words.{App, IsAmong, Kinds, Text, fault_of, is_simple, is_simple_and_free, matches_of, rows_of}
use Rattle.clap.specs.declared.parser.matches.Found.{Found}
use Rattle.clap.specs.declared.error.kind.ErrorKind.{ErrorKind}
use Rattle.command_line.specs.Outcome.{IsBadLine, IsRefusal, IsRefusedBy, IsReportedAs}
use Rattle.command_line.specs.declared.outcome.Outcome.{Outcome}

-- if an error's kind is `OutOfMemory` or one of `kinds`, an outcome that may report this error may report a refusal for `kinds`
pub refused_by : (kinds : Kinds) (kind : ErrorKind) (outcome : Outcome) → (kind ≡ ErrorKind.OutOfMemory) ⊎ IsAmong kind kinds
    → IsReportedAs kind outcome → IsRefusedBy kinds outcome
refused_by kinds kind (Outcome.Help text) has is =
    ⊎_elim (λ full. let clash : ErrorKind.OutOfMemory ≡ ErrorKind.DisplayHelp = sym full ∙ is in cc) (λ among. subst (λ k. IsAmong k kinds) is among) has
refused_by kinds kind (Outcome.Version text) has is =
    ⊎_elim (λ full. let clash : ErrorKind.OutOfMemory ≡ ErrorKind.DisplayVersion = sym full ∙ is in cc) (λ among. subst (λ k. IsAmong k kinds) is among) has
refused_by kinds kind (Outcome.BadLine text) has is = ⊎_elim (λ full. absurd (is.2 full)) (λ among. (kind, among, is.0, is.1)) has
refused_by kinds kind Outcome.NoMemory has is = tt
refused_by kinds kind Outcome.Done has is = absurd is
refused_by kinds kind Outcome.Unreadable has is = absurd is
refused_by kinds kind Outcome.Unwritable has is = absurd is
refused_by kinds kind Outcome.BadOnly has is = absurd is

-- if the parser may refuse words with this outcome, a command line may be refused with it
pub refusal_by : (kinds : Kinds) (outcome : Outcome) → IsRefusedBy kinds outcome → IsRefusal outcome
refusal_by kinds (Outcome.Help text) is = tt
refusal_by kinds (Outcome.Version text) is = tt
refusal_by kinds (Outcome.BadLine text) is = tt
refusal_by kinds Outcome.NoMemory is = tt
refusal_by kinds Outcome.BadOnly is = absurd is
refusal_by kinds Outcome.Done is = absurd is
refusal_by kinds Outcome.Unreadable is = absurd is
refusal_by kinds Outcome.Unwritable is = absurd is

pub refusal_said : (said : Text) (outcome : Outcome) → IsBadLine said outcome → IsRefusal outcome
refusal_said said (Outcome.Help text) is = absurd is
refusal_said said (Outcome.Version text) is = absurd is
refusal_said said (Outcome.BadLine text) is = tt
refusal_said said Outcome.NoMemory is = tt
refusal_said said Outcome.BadOnly is = absurd is
refusal_said said Outcome.Done is = absurd is
refusal_said said Outcome.Unreadable is = absurd is
refusal_said said Outcome.Unwritable is = absurd is

-- if `a` equals the command `line`, and `f` has the matches of `a` in the words, `f` has the matches of `line` in them
pub rows_as : {P : Type 0} (line a : App) (f : Found) (words : List Text) → is_simple line ≡ true → a ≡ line
    → (is_simple a ≡ true → (rows_of f ≡ matches_of a words) × P) → rows_of f ≡ matches_of line words
rows_as line a f words simple same found = (found (ap is_simple same ∙ simple)).0 ∙ ap (λ b. matches_of b words) same

-- if `a` equals the command `line`, and clap's model finds no fault in the words for `a`, it finds none for `line`
pub parsed_as : (line a : App) (words : List Text) → is_simple_and_free line ≡ true → a ≡ line
    → (is_simple_and_free a ≡ true → fault_of a words ≡ []) → fault_of line words ≡ []
parsed_as line a words simple same parsed = ap (λ b. fault_of b words) (sym same) ∙ parsed (ap is_simple_and_free same ∙ simple)

-- if `a` equals the command `line`, and `a` may refuse the words with this outcome, `line` may too
pub refused_as : (line a : App) (words : List Text) (outcome : Outcome) → is_simple_and_free line ≡ true → a ≡ line
    → (is_simple_and_free a ≡ true → IsRefusedBy (fault_of a words) outcome) → IsRefusedBy (fault_of line words) outcome
refused_as line a words outcome simple same refused =
    subst (λ kinds. IsRefusedBy kinds outcome) (ap (λ b. fault_of b words) same) (refused (ap is_simple_and_free same ∙ simple))
