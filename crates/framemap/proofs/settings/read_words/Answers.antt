use Rattle.std.proofs.Common.{◌≡◌, ◌∙◌, List, Result, Ok, Err, IfErr, IsErrAnd, ap, inl, inr, max, min, subst, sym, map, rules, codes}
use Rattle.clap.specs.Words.{Text, found_of, matches_of, one_text}
use Rattle.frame_picture.specs.declared.history.TheConstants.{MAX_COLUMNS}
use Rattle.command_line.specs.Settings.{IsFlag}
use Rattle.command_line.specs.declared.outcome.Outcome.{Outcome}
use Rattle.framemap.specs.Settings.{AreColumns, map_command_line}
use Rattle.framemap.specs.declared.settings.Settings.{Settings}
use Rattle.framemap.proofs.SettingsRead.{asks_rows, map_machine_given, map_parsed, map_refused, map_rows, map_taken, no_machine_rows}
use Rattle.framemap.proofs.settings.read_words.Goals as goal

pub returns-clause-asked : goal.returns-clause-asked
returns-clause-asked c =
    let words : List Text = map (λ word. word.now) c.args.words.now in
    let found = found_of c.in_ok-matches.matches in
    let rows = map_rows _ found words c.in_ok-command.ensures c.in_ok-matches.ensures.found in
    let figures : IsFlag (one_text found (codes "figures")) c.get_flag.result = search rules in
    let columns : AreColumns (one_text found (codes "columns")) c.clamp.result = record { written = c.get_one.result; read = search rules; within = c.clamp.ensures ∙ ap (λ n. max 1 (min n MAX_COLUMNS)) c.unwrap_or-columns.ensures } in
    asks_rows found (matches_of map_command_line words) _ rows
    (record { machine = record { sizes = c.in_ok-found.ensures.asked.sizes; only = c.in_ok-found.ensures.asked.only }; columns = columns; figures = figures; file = c.in_ok-path_of.ensures.path })

-- if a result has the error e, and Q holds for e, then Q holds for the error of the result
passed : (r : Result Settings Outcome) (e : Outcome) (Q : Outcome → Type 0) → IsErrAnd r (λ o. o ≡ e) → Q e → IfErr r Q
passed (Ok settings) e Q is fact = tt
passed (Err outcome) e Q is fact = subst Q (sym is) fact

pub returns-in_err-matches-clause-refused : goal.returns-in_err-matches-clause-refused
returns-in_err-matches-clause-refused c =
    let words : List Text = map (λ word. word.now) c.args.words.now in
    let outcome = c.in_err-matches.field-0.0 in
    passed c.from_residual-in_err-matches.result outcome _ c.from_residual-in_err-matches.ensures.1
    (inl (map_refused _ words outcome c.in_ok-command.ensures c.in_err-matches.ensures.kinds))

pub returns-in_err-matches-clause-given : goal.returns-in_err-matches-clause-given
returns-in_err-matches-clause-given c =
    let outcome = c.in_err-matches.field-0.0 in
    passed c.from_residual-in_err-matches.result outcome _ c.from_residual-in_err-matches.ensures.1
    (λ taken settings asked. c.in_err-matches.ensures.takes (map_taken _ _ c.in_ok-command.ensures taken))

pub returns-in_err-found-clause-refused : goal.returns-in_err-found-clause-refused
returns-in_err-found-clause-refused c =
    let words : List Text = map (λ word. word.now) c.args.words.now in
    let found = found_of c.in_ok-matches.matches in
    let outcome = c.in_err-found.field-0.0 in
    let rows = map_rows _ found words c.in_ok-command.ensures c.in_ok-matches.ensures.found in
    let taken = map_parsed _ words c.in_ok-command.ensures c.in_ok-matches.ensures.kinds in
    passed c.from_residual-in_err-found.result outcome _ c.from_residual-in_err-found.ensures.1
    (inr (taken, no_machine_rows found (matches_of map_command_line words) outcome rows c.in_err-found.ensures.refused))

pub returns-in_err-found-clause-given : goal.returns-in_err-found-clause-given
returns-in_err-found-clause-given c =
    let words : List Text = map (λ word. word.now) c.args.words.now in
    let found = found_of c.in_ok-matches.matches in
    let outcome = c.in_err-found.field-0.0 in
    let rows = map_rows _ found words c.in_ok-command.ensures c.in_ok-matches.ensures.found in
    passed c.from_residual-in_err-found.result outcome _ c.from_residual-in_err-found.ensures.1
    (λ taken settings asked. absurd (map_machine_given found (matches_of map_command_line words) settings outcome rows asked
    c.in_err-found.ensures.refused))
