use Rattle.std.proofs.Common.{◌++◌, [], ◌∷◌, arith, ap, length, length-append}
use Rattle.streams.proofs.LineLemmas.{one_line_append}
use Rattle.replay_core.proofs.DoingLemmas.{gone_end, stopped_end, gone_on, stopped_on, at_error}
use Rattle.replay_core.proofs.engine.do_piece.Goals as goal

pub returns-in_err-rest-clause-done : goal.returns-in_err-rest-clause-done
returns-in_err-rest-clause-done g c tail holds one =
    at_error _ _ c.from_residual.result c.from_residual.ensures.0 (λ _. c.in_err-rest.ensures.done tail holds)

pub lines-init : goal.lines-init
lines-init g c = (
  λ tail holds one. (tail, holds, one, omega arith, c.in_ok-rest.ensures.done tail holds),
  c.in_ok-rest.ensures.left,
  omega (arith, c.requires.more, c.in_ok-rest.ensures.left),
  c.in_ok-rest.ensures.failed,
)

pub returns-in_err-end_line-clause-done : goal.returns-in_err-end_line-clause-done
returns-in_err-end_line-clause-done g c tail holds one =
    let here = c.lines.invariant.0 tail holds one in
    at_error _ _ c.from_residual-in_err-end_line.result c.from_residual-in_err-end_line.ensures.0
    (λ _. stopped_end _ _ _ _ _ here.0 _ c.in-Some.end.now c.in-Some.after.now _ _ _ c.in_err-end_line.field-0.0 here.4 here.2 c.in-Some.ensures.0 c.in-Some.ensures.1
    (c.in_err-end_line.ensures.done here.0 here.1))

pub returns-in_err-rest-2-clause-done : goal.returns-in_err-rest-2-clause-done
returns-in_err-rest-2-clause-done g c tail holds one =
    let here = c.lines.invariant.0 tail holds one in
    at_error _ _ c.from_residual-in_err-rest-2.result c.from_residual-in_err-rest-2.ensures.0
    (λ _. stopped_on _ _ _ _ _ c.in-Some.after.now _ _ _
    (gone_end _ _ _ _ _ here.0 _ c.in-Some.end.now c.in-Some.after.now _ _ _ here.4 here.2 c.in-Some.ensures.0 c.in-Some.ensures.1 (c.in_ok-end_line.ensures.done here.0 here.1))
    c.in_err-rest-2.ensures.done)

pub lines-preserved : goal.lines-preserved
lines-preserved g c =
    let end = c.in-Some.end.now in
    let after = c.in-Some.after.now in
    let left = c.in_ok-rest-2.ensures.left in
    let whole = ap length c.in-Some.ensures.1 in
    let long = length-append (end ++ 10 ∷ []) after in
    let long_end = length-append end (10 ∷ []) in (
      λ tail holds one.
          let here = c.lines.invariant.0 tail holds one in (
            [],
            c.in_ok-end_line.ensures.cleared here.0 here.1,
            tt,
            omega arith,
            gone_on _ _ _ _ _ after _ _ _ _
                (gone_end _ _ _ _ _ here.0 _ end after _ _ _ here.4 here.2 c.in-Some.ensures.0 c.in-Some.ensures.1 (c.in_ok-end_line.ensures.done here.0 here.1))
                c.in_ok-rest-2.ensures.done,
          ),
      omega (arith, c.lines.invariant.1, c.in_ok-end_line.ensures.left, left, whole, long, long_end),
      omega (arith, c.lines.invariant.2, c.in_ok-end_line.ensures.left, left, whole, long, long_end),
      c.in_ok-rest-2.ensures.failed,
    )

pub returns-clause-done : goal.returns-clause-done
returns-clause-done g c tail holds one =
    let rest = c.lines.rest.now in
    let here = c.lines.invariant.0 tail holds one in (
      here.0 ++ rest,
      c.add.ensures here.0 here.1,
      one_line_append here.0 rest here.2 c.in_default.ensures,
      omega (arith, c.lines.invariant.1, here.3, length-append here.0 rest),
      here.4,
    )
