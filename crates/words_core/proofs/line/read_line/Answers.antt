use Rattle.std.proofs.Common.{◌≡◌, ◌∙◌, sym, subst, ap, arith, length, take, map, ℕ, List, Bor}
use Rattle.std.specs.Str.Lines.{strip_carriage_return}
use Rattle.words_core.specs.Words.{words_of}
use Rattle.words_core.specs.Cases.{Says}
use Rattle.words_core.proofs.LineLemmas.{reading_of-long, reading_of-words}
use Rattle.words_core.proofs.CaseLemmas.{says_reading, only_reading}
use Rattle.words_core.proofs.line.read_line.Goals as goal

pub returns-then-line-gt-MAX_LINE_BYTES-clause-exact : goal.returns-then-line-gt-MAX_LINE_BYTES-clause-exact
returns-then-line-gt-MAX_LINE_BYTES-clause-exact c =
    sym (reading_of-long c.args.line.now (omega (arith, ap length c.without_carriage_return-line.ensures)))

pub returns-then-line-gt-MAX_LINE_BYTES-clause-says : goal.returns-then-line-gt-MAX_LINE_BYTES-clause-says
returns-then-line-gt-MAX_LINE_BYTES-clause-says c =
    subst (Says c.args.line.now) (sym (returns-then-line-gt-MAX_LINE_BYTES-clause-exact c)) (says_reading c.args.line.now)

pub returns-clause-exact : goal.returns-clause-exact
returns-clause-exact c =
    let now = λ (word : Bor (List ℕ)). word.now in
    let line : c.without_carriage_return-line.result.now ≡ strip_carriage_return c.args.line.now = c.without_carriage_return-line.ensures in
    c.judged.ensures
    ∙ reading_of-words c.args.line.now (map now c.as_slice.result.now) (omega (arith, ap length line))
    (ap (map now) c.as_slice.ensures.value ∙ c.split_words.ensures ∙ ap (λ bytes. take 6 (words_of bytes)) line)

pub returns-clause-says : goal.returns-clause-says
returns-clause-says c = subst (Says c.args.line.now) (sym (returns-clause-exact c)) (says_reading c.args.line.now)

pub returns-clause-only : goal.returns-clause-only
returns-clause-only c = λ other says. only_reading c.args.line.now other says ∙ sym (returns-clause-exact c)
