use Rattle.std.proofs.Common.{◌∙◌, sym, drop, length-drop, arith}
use Rattle.std.proofs.lemmas.List.{nil_from_length}
use Rattle.trace_check.proofs.FormLoop.{left_from, no_number, letter_found, letter_missing, word_ends}
use Rattle.trace_check.proofs.form.behind_word.Goals as goal

pub returns-in_err-rest : goal.returns-in_err-rest
returns-in_err-rest c =
    let left = left_from c.args.word.now c.loop-letter.letter-index c.loop-letter-test.true in
    let next = no_number _ _ _ left c.loop-letter.invariant.marks in
    rw c.from_residual.ensures (sym c.loop-letter.invariant.left ∙ letter_missing _ _ c.loop-letter.rest.now _ left next.0 c.in_err-rest.ensures)

pub loop-letter-preserved : goal.loop-letter-preserved
loop-letter-preserved c =
    let left = left_from c.args.word.now c.loop-letter.letter-index c.loop-letter-test.true in
    let next = no_number _ _ _ left c.loop-letter.invariant.marks in
    record {
      left = sym (letter_found _ _ c.loop-letter.rest.now c.in_ok-rest.rest.now _ left next.0 c.in_ok-rest.ensures) ∙ c.loop-letter.invariant.left;
      marks = next.1;
    }

pub returns : goal.returns
returns c =
    let ended = nil_from_length (drop c.loop-letter.letter-index c.args.word.now)
    (omega (arith, length-drop c.loop-letter.letter-index c.args.word.now, c.loop-letter-test.false)) in
    sym c.loop-letter.invariant.left ∙ word_ends (drop c.loop-letter.letter-index c.args.word.now) c.loop-letter.rest.now ended
