use Rattle.std.proofs.Common.{◌≡◌, List, Result, Ok, Err, IfErr, IsErrAnd, inl, inr, subst, sym, map, rules, codes}
use Rattle.clap.specs.Words.{Text, found_of, matches_of, one_text}
use Rattle.command_line.specs.Settings.{IsFlag, command_line, machine_of}
use Rattle.command_line.specs.declared.outcome.Outcome.{Outcome}
use Rattle.command_line.specs.declared.settings.Settings.{Settings}
use Rattle.command_line.proofs.MachineOptionsRead.{machine_given}
use Rattle.command_line.proofs.SettingsRead.{asks_rows, line_parsed, line_refused, line_rows, machine_asked, no_machine_rows, no_own_rows, own_fits}
use Rattle.command_line.proofs.SettingsRead.{own_given, taken_by}
use Rattle.command_line.proofs.words.read_words.Goals as goal

pub returns-clause-asked : goal.returns-clause-asked
returns-clause-asked c =
    let words : List Text = map (λ word. word.now) c.args.words.now in
    let found = found_of c.in_ok-matches.matches in
    let rows = line_rows _ found words c.in_ok-command.ensures c.in_ok-matches.ensures.found in
    let tally : IsFlag (one_text found (codes "tally")) c.get_flag-tally.result = search rules in
    asks_rows found (matches_of command_line words) _ rows
    (record { machine = record { sizes = c.in_ok-machine.ensures.asked.sizes; only = c.in_ok-machine.ensures.asked.only }; own = c.in_ok-own.ensures.asked; own_below = c.in_ok-own.ensures.below; own_alone = c.in_ok-own.ensures.alone; tally = tally; file = c.in_ok-path_of.ensures.path })

-- if a result is the error e, and Q is true of e, Q is true of the error in the result
passed : (r : Result Settings Outcome) (e : Outcome) (Q : Outcome → Type 0) → IsErrAnd r (λ o. o ≡ e) → Q e → IfErr r Q
passed (Ok settings) e Q is fact = tt
passed (Err outcome) e Q is fact = subst Q (sym is) fact

pub returns-in_err-matches-clause-refused : goal.returns-in_err-matches-clause-refused
returns-in_err-matches-clause-refused c =
    let words : List Text = map (λ word. word.now) c.args.words.now in
    let outcome = c.in_err-matches.field-0.0 in
    passed c.from_residual-in_err-matches.result outcome _ c.from_residual-in_err-matches.ensures.1
    (inl (line_refused _ words outcome c.in_ok-command.ensures c.in_err-matches.ensures.kinds))

pub returns-in_err-matches-clause-given : goal.returns-in_err-matches-clause-given
returns-in_err-matches-clause-given c =
    let outcome = c.in_err-matches.field-0.0 in
    passed c.from_residual-in_err-matches.result outcome _ c.from_residual-in_err-matches.ensures.1
    (λ taken settings had. c.in_err-matches.ensures.takes (taken_by _ _ c.in_ok-command.ensures taken))

pub returns-in_err-machine-clause-refused : goal.returns-in_err-machine-clause-refused
returns-in_err-machine-clause-refused c =
    let words : List Text = map (λ word. word.now) c.args.words.now in
    let found = found_of c.in_ok-matches.matches in
    let outcome = c.in_err-machine.field-0.0 in
    let rows = line_rows _ found words c.in_ok-command.ensures c.in_ok-matches.ensures.found in
    let taken = line_parsed _ words c.in_ok-command.ensures c.in_ok-matches.ensures.kinds in
    passed c.from_residual-in_err-machine.result outcome _ c.from_residual-in_err-machine.ensures.1
    (inr (taken, no_machine_rows found (matches_of command_line words) outcome rows c.in_err-machine.ensures.refused))

pub returns-in_err-machine-clause-given : goal.returns-in_err-machine-clause-given
returns-in_err-machine-clause-given c =
    let words : List Text = map (λ word. word.now) c.args.words.now in
    let found = found_of c.in_ok-matches.matches in
    let outcome = c.in_err-machine.field-0.0 in
    let rows = line_rows _ found words c.in_ok-command.ensures c.in_ok-matches.ensures.found in
    passed c.from_residual-in_err-machine.result outcome _ c.from_residual-in_err-machine.ensures.1
    (λ taken settings had. absurd (machine_given (one_text found) (machine_of settings) outcome
    (machine_asked found (matches_of command_line words) settings rows had.asked) c.in_err-machine.ensures.refused))

pub returns-in_err-own-clause-refused : goal.returns-in_err-own-clause-refused
returns-in_err-own-clause-refused c =
    let words : List Text = map (λ word. word.now) c.args.words.now in
    let found = found_of c.in_ok-matches.matches in
    let outcome = c.in_err-own.field-0.0 in
    let rows = line_rows _ found words c.in_ok-command.ensures c.in_ok-matches.ensures.found in
    let taken = line_parsed _ words c.in_ok-command.ensures c.in_ok-matches.ensures.kinds in
    let tally : IsFlag (one_text found (codes "tally")) c.get_flag-tally.result = search rules in
    passed c.from_residual-in_err-own.result outcome _ c.from_residual-in_err-own.ensures.1
    (inr (
      taken,
      no_own_rows found (matches_of command_line words) c.in_ok-machine.machine c.get_flag-tally.result outcome rows
          c.in_ok-machine.ensures.asked tally c.in_err-own.ensures.refused,
    ))

pub returns-in_err-own-clause-given : goal.returns-in_err-own-clause-given
returns-in_err-own-clause-given c =
    let words : List Text = map (λ word. word.now) c.args.words.now in
    let found = found_of c.in_ok-matches.matches in
    let outcome = c.in_err-own.field-0.0 in
    let rows = line_rows _ found words c.in_ok-command.ensures c.in_ok-matches.ensures.found in
    let tally : IsFlag (one_text found (codes "tally")) c.get_flag-tally.result = search rules in
    passed c.from_residual-in_err-own.result outcome _ c.from_residual-in_err-own.ensures.1
    (λ taken settings had.
    let fits = own_fits found (matches_of command_line words) c.in_ok-machine.machine settings c.get_flag-tally.result rows
    c.in_ok-machine.ensures.asked tally had.asked had.own_alone in
    absurd (own_given (one_text found) c.in_ok-machine.machine c.get_flag-tally.result outcome settings.own fits.0 fits.1 fits.2
    c.in_err-own.ensures.refused))
