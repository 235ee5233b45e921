use Rattle.std.proofs.Common.{◌∙◌, [], ◌∷◌, ap}
use Rattle.trace_check.specs.Forms.{◌>>=◌}
use Rattle.trace_check.proofs.FormLoop.{between, number_behind, number_then, with_front}
use Rattle.trace_check.proofs.form.number_between.Goals as goal

pub returns-in_err-behind_word : goal.returns-in_err-behind_word
returns-in_err-behind_word c = rw c.from_residual.ensures
    (between c.args.before.now c.args.after.now c.args.text.now c.requires.before ∙ ap (number_behind c.args.after.now) c.in_err-behind_word.ensures)

pub returns-in_err-number : goal.returns-in_err-number
returns-in_err-number c = rw c.from_residual-in_err-number.ensures
    (between c.args.before.now c.args.after.now c.args.text.now c.requires.before ∙ ap (number_behind c.args.after.now) c.in_ok-behind_word.ensures
    ∙ ap (λ found. found >>= number_then c.args.after.now) c.in_err-number.ensures)

pub returns-in_err-behind_word-2 : goal.returns-in_err-behind_word-2
returns-in_err-behind_word-2 c = rw c.from_residual-in_err-behind_word-2.ensures
    (between c.args.before.now c.args.after.now c.args.text.now c.requires.before ∙ ap (number_behind c.args.after.now) c.in_ok-behind_word.ensures
    ∙ ap (λ found. found >>= number_then c.args.after.now) c.in_ok-number.ensures
    ∙ ap (with_front (c.in_ok-number.number ∷ [])) c.in_err-behind_word-2.ensures)

pub returns : goal.returns
returns c =
    between c.args.before.now c.args.after.now c.args.text.now c.requires.before ∙ ap (number_behind c.args.after.now) c.in_ok-behind_word.ensures
    ∙ ap (λ found. found >>= number_then c.args.after.now) c.in_ok-number.ensures
    ∙ ap (with_front (c.in_ok-number.number ∷ [])) c.in_ok-behind_word-2.ensures
