-- The matches of a parse and the rows of clap's model request the same settings, or give none for the same reason.
use Rattle.std.proofs.Common.{◌≡◌, ◌∙◌, ◌<◌, ⊎_elim, ℕ, Bool, List, [], Option, Some, inl, inr, subst, ap, refl, sym, true, arith, codes}
use Rattle.std.specs.Option.{ForSome}
use Rattle.clap.specs.Words.{App, Row, Text, fault_of, first_of, first_value, is_simple, is_simple_and_free, matches_of, one_of}
use Rattle.clap.specs.Words.{one_text, rows_of, takes}
use Rattle.clap.specs.declared.parser.matches.Found.{Found}
use Rattle.clap.proofs.OnLiterals.{clap_on_literals}
use Rattle.clap.proofs.WalkLemmas.{first_value-rows}
use Rattle.command_line.proofs.MachineOptionsRead.{asks_machine, no_machine, one_number, one_text-of_rows, same_number, same_written}
use Rattle.command_line.proofs.ParserRefusals.{parsed_as, refused_as, rows_as}
use Rattle.command_line.specs.MachineOptions.{AsksMachine, IsNoMachine, MayWrite, Writes}
use Rattle.command_line.specs.Outcome.{IsRefusedBy}
use Rattle.command_line.specs.Settings.{Asks, IsAlone, IsFlag, IsInOrder, IsNoOwn, IsNoSettings, command_line, parse_faults, machine_of}
use Rattle.command_line.specs.declared.machine_options.MachineOptions.{MachineOptions}
use Rattle.command_line.specs.declared.outcome.Outcome.{Outcome}
use Rattle.command_line.specs.declared.settings.Settings.{Settings}

-- clap's model covers the command of `partmem`
pub line_is_simple : is_simple command_line ≡ true
unfolding clap_on_literals
line_is_simple = refl

pub line_is_simple_and_free : is_simple_and_free command_line ≡ true
unfolding clap_on_literals
line_is_simple_and_free = refl

-- if `a` equals `command_line`, and `f` has the matches of `a` in the words, `f` has the matches of `command_line` in them
pub line_rows : {P : Type 0} (a : App) (f : Found) (words : List Text) → a ≡ command_line
    → (is_simple a ≡ true → (rows_of f ≡ matches_of a words) × P) → rows_of f ≡ matches_of command_line words
line_rows a f words same found = rows_as command_line a f words line_is_simple same found

pub line_parsed : (a : App) (words : List Text) → a ≡ command_line → (is_simple_and_free a ≡ true → fault_of a words ≡ [])
    → parse_faults words ≡ []
unfolding parse_faults
line_parsed a words same parsed = parsed_as command_line a words line_is_simple_and_free same parsed

pub line_refused : (a : App) (words : List Text) (outcome : Outcome) → a ≡ command_line
    → (is_simple_and_free a ≡ true → IsRefusedBy (fault_of a words) outcome) → IsRefusedBy (parse_faults words) outcome
unfolding parse_faults
line_refused a words outcome same refused = refused_as command_line a words outcome line_is_simple_and_free same refused

-- if clap's model accepts the words for `command_line`, it accepts them for an equal command `a`
pub taken_by : (a : App) (words : List Text) → a ≡ command_line → IsInOrder words → takes a words ≡ true
unfolding IsInOrder
taken_by a words same taken = subst (λ b. takes b words ≡ true) (sym same) taken

pub asks_rows : (f : Found) (rows : List Row) (s : Settings) → rows_of f ≡ rows → Asks (one_text f) (first_value f) s
    → Asks (λ name. one_of name rows) (λ name. first_of name rows) s
asks_rows f rows s same asks = record {
  machine = asks_machine (one_text f) (λ name. one_of name rows) (machine_of s) (one_text-of_rows f rows same) asks.machine;
  own = subst (λ text. MayWrite text s.own) (one_text-of_rows f rows same (codes "own")) asks.own;
  own_below = asks.own_below;
  own_alone = asks.own_alone;
  tally = subst (λ text. IsFlag text s.tally) (one_text-of_rows f rows same (codes "tally")) asks.tally;
  file = asks.file ∙ first_value-rows f (codes "FILE") ∙ ap (first_of (codes "FILE")) same;
}

-- if the matches give no machine, the rows give no settings, with the same outcome
pub no_machine_rows : (f : Found) (rows : List Row) (outcome : Outcome) → rows_of f ≡ rows → IsNoMachine (one_text f) outcome
    → IsNoSettings (λ name. one_of name rows) outcome
no_machine_rows f rows outcome same none = inl (no_machine (one_text f) (λ name. one_of name rows) outcome (one_text-of_rows f rows same) none)

-- if the matches give a machine for which `--own` is refused, the rows give no settings, with the same outcome
pub no_own_rows : (f : Found) (rows : List Row) (m : MachineOptions) (flag : Bool) (outcome : Outcome) → rows_of f ≡ rows → AsksMachine (one_text f) m
    → IsFlag (one_text f (codes "tally")) flag → IsNoOwn (one_text f) m flag outcome → IsNoSettings (λ name. one_of name rows) outcome
no_own_rows f rows m flag outcome same machine tally (tenant, own, why) = inr (
  m,
  flag,
  asks_machine (one_text f) (λ name. one_of name rows) m (one_text-of_rows f rows same) machine,
  subst (λ text. IsFlag text flag) (one_text-of_rows f rows same (codes "tally")) tally,
  (tenant, subst (λ text. Writes text tenant) (one_text-of_rows f rows same (codes "own")) own, why),
)

-- a valid `--own` is not refused, nor is a missing one
pub own_given : (read : Text → Option Text) (m : MachineOptions) (flag : Bool) (outcome : Outcome) (own : Option ℕ) → MayWrite (read (codes "own")) own
    → ForSome own (λ t. t < m.config.tenants) → IsAlone own m.only flag → ¬ IsNoOwn read m flag outcome
own_given read m flag outcome own may below alone (tenant, writes, why) =
    let is : own ≡ Some tenant = one_number (read (codes "own")) own tenant may writes in
    let apart : IsAlone (Some tenant) m.only flag = subst (λ o. IsAlone o m.only flag) is alone in
    let within : tenant < m.config.tenants = below tenant is in
    ⊎_elim (λ beside. beside.0 apart) (λ beyond. let above = beyond.1 in omega arith) why

-- if the rows request settings, the matches request the machine of these settings
pub machine_asked : (f : Found) (rows : List Row) (s : Settings) → rows_of f ≡ rows → Asks (λ name. one_of name rows) (λ name. first_of name rows) s
    → AsksMachine (one_text f) (machine_of s)
machine_asked f rows s same asks =
    asks_machine (λ name. one_of name rows) (one_text f) (machine_of s) (λ name. sym (one_text-of_rows f rows same name)) asks.machine

-- if the rows request settings, but not `--own` beside `--only` or `--tally`, the `own` of these settings is valid for the
-- machine and the flag that the matches give
pub own_fits : (f : Found) (rows : List Row) (m : MachineOptions) (s : Settings) (flag : Bool) → rows_of f ≡ rows
    → AsksMachine (one_text f) m → IsFlag (one_text f (codes "tally")) flag → Asks (λ name. one_of name rows) (λ name. first_of name rows) s
    → ((given : Bool) → IsFlag (one_of (codes "tally") rows) given → IsAlone s.own s.only given)
    → MayWrite (one_text f (codes "own")) s.own × ForSome s.own (λ t. t < m.config.tenants) × IsAlone s.own m.only flag
own_fits f rows m s flag same machine tally asks alone =
    let asked : AsksMachine (one_text f) (machine_of s) = machine_asked f rows s same asks in
    let tenants : s.config.tenants ≡ m.config.tenants = same_number (one_text f (codes "tenants")) s.config.tenants m.config.tenants asked.sizes.tenants machine.sizes.tenants in
    let only : s.only ≡ m.only = same_written (one_text f (codes "only")) s.only m.only asked.only machine.only in (
      subst (λ text. MayWrite text s.own) (sym (one_text-of_rows f rows same (codes "own"))) asks.own,
      subst (λ n. ForSome s.own (λ t. t < n)) tenants asks.own_below,
      subst (λ o. IsAlone s.own o flag) only (alone flag (subst (λ text. IsFlag text flag) (one_text-of_rows f rows same (codes "tally")) tally)),
    )
