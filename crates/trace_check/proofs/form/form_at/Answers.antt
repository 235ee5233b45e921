use Rattle.std.proofs.Common.{◌∙◌, ◌+◌, append-nil, Some, None, ap, sym, drop, length-drop, arith}
use Rattle.std.proofs.lemmas.List.{nil_from_length}
use Rattle.trace_check.specs.Forms.{form_at}
use Rattle.trace_check.proofs.FormLoop.{with_front, left_from, goes_on, ends_early, is_done, one_mark_less, as_many_marks}
use Rattle.trace_check.proofs.form.form_at.Goals as goal
use Rattle.trace_check.proofs.form.form_at.Goals.{in-Some, in_default}

pub returns-in_err-number : goal.returns-in_err-number
returns-in_err-number g c =
    rw c.from_residual.ensures
    (ends_early c.loop-mark.numbers.items _ _ c.loop-mark.rest.now _ (form_at c.args.form.now c.args.text.now)
    (left_from c.args.form.now c.loop-mark.mark-index c.loop-mark-test.true) c.in_err-number.ensures c.loop-mark.invariant.all)

pub push-requires : goal.push-requires
push-requires g c =
    let found = c.in_ok-number.ensures ∙ ap (λ number. Some (number, c.in_ok-number.after.now)) c.in-Some.is in
    let less = one_mark_less _ _ c.loop-mark.rest.now c.in_ok-number.after.now _ c.in-Some.number
    (left_from c.args.form.now c.loop-mark.mark-index c.loop-mark-test.true) found in
    (omega (arith, c.requires.few), omega (arith, less, c.loop-mark.invariant.marks))

pub loop-mark-preserved : goal.loop-mark-preserved
loop-mark-preserved g c =
    let left = left_from c.args.form.now c.loop-mark.mark-index c.loop-mark-test.true in
    elim c.match-number.branch [
      | in-Some w ↦
          let found = c.in_ok-number.ensures ∙ ap (λ number. Some (number, c.in_ok-number.after.now)) w.in-Some.is in
          let less = one_mark_less _ _ c.loop-mark.rest.now c.in_ok-number.after.now _ w.in-Some.number left found in
          rw (w.numbers-is, w.rest-is) record {
            all = rw w.push.ensures.items (goes_on c.loop-mark.numbers.items _ _ c.loop-mark.rest.now c.in_ok-number.after.now _ (Some w.in-Some.number) _ left found c.loop-mark.invariant.all);
            marks = omega (arith, less, w.push.ensures.len, c.loop-mark.invariant.marks);
          }
      | in_default w ↦
          let found = c.in_ok-number.ensures ∙ ap (λ number. Some (number, c.in_ok-number.after.now)) w.in_default.is in
          let same = as_many_marks _ _ c.loop-mark.rest.now c.in_ok-number.after.now _ left found in
          rw (w.numbers-is, w.rest-is) record {
            all = ap (λ front. with_front front (form_at (drop (c.loop-mark.mark-index + 1) c.args.form.now) c.in_ok-number.after.now)) (sym (append-nil c.loop-mark.numbers.items))
                ∙ goes_on c.loop-mark.numbers.items _ _ c.loop-mark.rest.now c.in_ok-number.after.now _ None _ left found c.loop-mark.invariant.all;
            marks = omega (arith, same, c.loop-mark.invariant.marks);
          }
    ]

pub returns : goal.returns
returns g c =
    is_done c.loop-mark.numbers.items (drop c.loop-mark.mark-index c.args.form.now) c.loop-mark.rest.now _
    (nil_from_length (drop c.loop-mark.mark-index c.args.form.now) (omega (arith, length-drop c.loop-mark.mark-index c.args.form.now, c.loop-mark-test.false)))
    c.loop-mark.invariant.all
    ∙ ap (λ numbers. Some (numbers, c.loop-mark.rest.now)) (sym c.in-Ok.ensures.ok)
