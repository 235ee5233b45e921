use Rattle.std.proofs.Common.{◌≡◌, List, Result, Ok, Err, IfErr, IsErrAnd, inl, inr, subst, sym, map}
use Rattle.clap.specs.Words.{Text, found_of, matches_of}
use Rattle.command_line.specs.declared.outcome.Outcome.{Outcome}
use Rattle.partcheck.specs.Settings.{check_command_line}
use Rattle.partcheck.specs.declared.settings.Settings.{Settings}
use Rattle.partcheck.proofs.SettingsRead.{asks_rows, check_parsed, check_refused, check_rows, check_taken}
use Rattle.partcheck.proofs.SettingsRead.{no_replies_rows, no_sizes_rows, no_trace_rows, replies_given, sizes_given, trace_given}
use Rattle.partcheck.proofs.words.read_words.Goals as goal

pub returns-clause-asked : goal.returns-clause-asked
returns-clause-asked c =
    let words : List Text = map (λ word. word.now) c.args.words.now in
    let found = found_of c.in_ok-matches.matches in
    let rows = check_rows _ found words c.in_ok-command.ensures c.in_ok-matches.ensures.found in
    asks_rows found (matches_of check_command_line words) _ rows
    (record { sizes = c.in_ok-sizes_found.ensures.asked; trace = c.in_ok-required_path.ensures.path; replies = c.in_ok-required_path-2.ensures.path })

-- if a result has the error e, and Q holds for e, then Q holds for the error of the result
passed : (r : Result Settings Outcome) (e : Outcome) (Q : Outcome → Type 0) → IsErrAnd r (λ o. o ≡ e) → Q e → IfErr r Q
passed (Ok settings) e Q is fact = tt
passed (Err outcome) e Q is fact = subst Q (sym is) fact

pub returns-in_err-matches-clause-refused : goal.returns-in_err-matches-clause-refused
returns-in_err-matches-clause-refused c =
    let words : List Text = map (λ word. word.now) c.args.words.now in
    let outcome = c.in_err-matches.field-0.0 in
    passed c.from_residual-in_err-matches.result outcome _ c.from_residual-in_err-matches.ensures.1
    (inl (check_refused _ words outcome c.in_ok-command.ensures c.in_err-matches.ensures.kinds))

pub returns-in_err-matches-clause-given : goal.returns-in_err-matches-clause-given
returns-in_err-matches-clause-given c =
    let outcome = c.in_err-matches.field-0.0 in
    passed c.from_residual-in_err-matches.result outcome _ c.from_residual-in_err-matches.ensures.1
    (λ taken settings asked. c.in_err-matches.ensures.takes (check_taken _ _ c.in_ok-command.ensures taken))

pub returns-in_err-sizes_found-clause-refused : goal.returns-in_err-sizes_found-clause-refused
returns-in_err-sizes_found-clause-refused c =
    let words : List Text = map (λ word. word.now) c.args.words.now in
    let found = found_of c.in_ok-matches.matches in
    let outcome = c.in_err-sizes_found.field-0.0 in
    let rows = check_rows _ found words c.in_ok-command.ensures c.in_ok-matches.ensures.found in
    let taken = check_parsed _ words c.in_ok-command.ensures c.in_ok-matches.ensures.kinds in
    passed c.from_residual-in_err-sizes_found.result outcome _ c.from_residual-in_err-sizes_found.ensures.1
    (inr (taken, no_sizes_rows found (matches_of check_command_line words) outcome rows c.in_err-sizes_found.ensures.given c.in_err-sizes_found.ensures.refused))

pub returns-in_err-sizes_found-clause-given : goal.returns-in_err-sizes_found-clause-given
returns-in_err-sizes_found-clause-given c =
    let words : List Text = map (λ word. word.now) c.args.words.now in
    let found = found_of c.in_ok-matches.matches in
    let outcome = c.in_err-sizes_found.field-0.0 in
    let rows = check_rows _ found words c.in_ok-command.ensures c.in_ok-matches.ensures.found in
    passed c.from_residual-in_err-sizes_found.result outcome _ c.from_residual-in_err-sizes_found.ensures.1
    (λ taken settings asked. absurd (sizes_given found (matches_of check_command_line words) settings rows asked c.in_err-sizes_found.ensures.given))

pub returns-in_err-required_path-clause-refused : goal.returns-in_err-required_path-clause-refused
returns-in_err-required_path-clause-refused c =
    let words : List Text = map (λ word. word.now) c.args.words.now in
    let found = found_of c.in_ok-matches.matches in
    let outcome = c.in_err-required_path.field-0.0 in
    let rows = check_rows _ found words c.in_ok-command.ensures c.in_ok-matches.ensures.found in
    let taken = check_parsed _ words c.in_ok-command.ensures c.in_ok-matches.ensures.kinds in
    passed c.from_residual-in_err-required_path.result outcome _ c.from_residual-in_err-required_path.ensures.1
    (inr (taken, no_trace_rows found (matches_of check_command_line words) outcome rows c.in_err-required_path.ensures.refused))

pub returns-in_err-required_path-clause-given : goal.returns-in_err-required_path-clause-given
returns-in_err-required_path-clause-given c =
    let words : List Text = map (λ word. word.now) c.args.words.now in
    let found = found_of c.in_ok-matches.matches in
    let outcome = c.in_err-required_path.field-0.0 in
    let rows = check_rows _ found words c.in_ok-command.ensures c.in_ok-matches.ensures.found in
    passed c.from_residual-in_err-required_path.result outcome _ c.from_residual-in_err-required_path.ensures.1
    (λ taken settings asked. trace_given found (matches_of check_command_line words) settings outcome rows asked c.in_err-required_path.ensures.refused)

pub returns-in_err-required_path-2-clause-refused : goal.returns-in_err-required_path-2-clause-refused
returns-in_err-required_path-2-clause-refused c =
    let words : List Text = map (λ word. word.now) c.args.words.now in
    let found = found_of c.in_ok-matches.matches in
    let outcome = c.in_err-required_path-2.field-0.0 in
    let rows = check_rows _ found words c.in_ok-command.ensures c.in_ok-matches.ensures.found in
    let taken = check_parsed _ words c.in_ok-command.ensures c.in_ok-matches.ensures.kinds in
    passed c.from_residual-in_err-required_path-2.result outcome _ c.from_residual-in_err-required_path-2.ensures.1
    (inr (taken, no_replies_rows found (matches_of check_command_line words) outcome rows c.in_err-required_path-2.ensures.refused))

pub returns-in_err-required_path-2-clause-given : goal.returns-in_err-required_path-2-clause-given
returns-in_err-required_path-2-clause-given c =
    let words : List Text = map (λ word. word.now) c.args.words.now in
    let found = found_of c.in_ok-matches.matches in
    let outcome = c.in_err-required_path-2.field-0.0 in
    let rows = check_rows _ found words c.in_ok-command.ensures c.in_ok-matches.ensures.found in
    passed c.from_residual-in_err-required_path-2.result outcome _ c.from_residual-in_err-required_path-2.ensures.1
    (λ taken settings asked. replies_given found (matches_of check_command_line words) settings outcome rows asked c.in_err-required_path-2.ensures.refused)
