-- The settings and refusals of a parse are those of clap's model for the command line of `framemap`.
use Rattle.std.proofs.Common.{◌≡◌, ◌∙◌, List, [], ap, subst, sym, true, refl, codes}
use Rattle.clap.specs.Words.{App, Row, Text, fault_of, first_of, first_value, is_simple, is_simple_and_free, matches_of, one_of, one_text, rows_of, takes}
use Rattle.clap.specs.declared.parser.matches.Found.{Found}
use Rattle.clap.proofs.OnLiterals.{clap_on_literals}
use Rattle.clap.proofs.WalkLemmas.{first_value-rows}
use Rattle.command_line.proofs.MachineOptionsRead.{asks_machine, machine_given, no_machine, one_text-of_rows}
use Rattle.command_line.proofs.ParserRefusals.{parsed_as, refused_as, rows_as}
use Rattle.command_line.specs.MachineOptions.{IsNoMachine}
use Rattle.command_line.specs.Outcome.{IsRefusedBy}
use Rattle.command_line.specs.Settings.{IsFlag}
use Rattle.command_line.specs.declared.outcome.Outcome.{Outcome}
use Rattle.framemap.specs.Settings.{AreColumns, AsksMap, IsMapInOrder, map_command_line, map_faults}
use Rattle.framemap.specs.declared.settings.Settings.{Settings}

-- clap's model covers the command line of `framemap`
line_is_simple : is_simple map_command_line ≡ true
unfolding clap_on_literals
line_is_simple = refl

line_is_simple_and_free : is_simple_and_free map_command_line ≡ true
unfolding clap_on_literals
line_is_simple_and_free = refl

-- if a command equals the command line of `framemap`, the rows of its matches are those that clap's model gives
pub map_rows : {P : Type 0} (a : App) (f : Found) (words : List Text) → a ≡ map_command_line
    → (is_simple a ≡ true → (rows_of f ≡ matches_of a words) × P) → rows_of f ≡ matches_of map_command_line words
map_rows a f words same found = rows_as map_command_line a f words line_is_simple same found

pub map_parsed : (a : App) (words : List Text) → a ≡ map_command_line → (is_simple_and_free a ≡ true → fault_of a words ≡ [])
    → map_faults words ≡ []
unfolding map_faults
map_parsed a words same parsed = parsed_as map_command_line a words line_is_simple_and_free same parsed

pub map_refused : (a : App) (words : List Text) (outcome : Outcome) → a ≡ map_command_line
    → (is_simple_and_free a ≡ true → IsRefusedBy (fault_of a words) outcome) → IsRefusedBy (map_faults words) outcome
unfolding map_faults
map_refused a words outcome same refused = refused_as map_command_line a words outcome line_is_simple_and_free same refused

-- if a command equals the command line of `framemap`, it takes all words that clap's model takes
pub map_taken : (a : App) (words : List Text) → a ≡ map_command_line → IsMapInOrder words → takes a words ≡ true
unfolding IsMapInOrder
map_taken a words same taken = subst (λ b. takes b words ≡ true) (sym same) taken

-- if the matches request settings, their rows request the same settings
pub asks_rows : (f : Found) (rows : List Row) (s : Settings) → rows_of f ≡ rows → AsksMap (one_text f) (first_value f) s
    → AsksMap (λ name. one_of name rows) (λ name. first_of name rows) s
asks_rows f rows s same asks = record {
  machine = asks_machine (one_text f) (λ name. one_of name rows) s.machine (one_text-of_rows f rows same) asks.machine;
  columns = subst (λ text. AreColumns text s.columns) (one_text-of_rows f rows same (codes "columns")) asks.columns;
  figures = subst (λ text. IsFlag text s.figures) (one_text-of_rows f rows same (codes "figures")) asks.figures;
  file = asks.file ∙ first_value-rows f (codes "FILE") ∙ ap (first_of (codes "FILE")) same;
}

-- if the matches give no machine, their rows give none either, with the same outcome
pub no_machine_rows : (f : Found) (rows : List Row) (outcome : Outcome) → rows_of f ≡ rows → IsNoMachine (one_text f) outcome
    → IsNoMachine (λ name. one_of name rows) outcome
no_machine_rows f rows outcome same none = no_machine (one_text f) (λ name. one_of name rows) outcome (one_text-of_rows f rows same) none

-- if the rows request settings, the matches give a machine
pub map_machine_given : (f : Found) (rows : List Row) (s : Settings) (outcome : Outcome) → rows_of f ≡ rows
    → AsksMap (λ name. one_of name rows) (λ name. first_of name rows) s → IsNoMachine (one_text f) outcome → ⊥
map_machine_given f rows s outcome same asks none = machine_given (one_text f) s.machine outcome
    (asks_machine (λ name. one_of name rows) (one_text f) s.machine (λ name. sym (one_text-of_rows f rows same name)) asks.machine) none
