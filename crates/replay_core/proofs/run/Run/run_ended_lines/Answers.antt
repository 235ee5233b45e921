use Rattle.std.proofs.Common.{arith}
use Rattle.std.proofs.lemmas.List.{take_rest}
use Rattle.replay_core.proofs.DoingLemmas.{gone_on, result_on, at_error}
use Rattle.replay_core.proofs.QuickLemmas.{line_done, line_stopped, left_over}
use Rattle.replay_core.proofs.run.Run.run_ended_lines.Goals as goal

pub returns-in_err-answer_apart-clause-done : goal.returns-in_err-answer_apart-clause-done
returns-in_err-answer_apart-clause-done g c =
    at_error _ _ c.from_residual.result c.from_residual.ensures.0
    (λ _. line_stopped _ _ _ _ _ c.lines.rest.now _ _ _ c.in_err-answer_apart.field-0.0 _ _ c.in-Some.line.len c.in-Some.ensures.reads
    c.lines.invariant.0 c.in_err-answer_apart.ensures.done)

pub lines-preserved : goal.lines-preserved
lines-preserved g c =
    let rest = c.lines.rest.now in
    let len = c.in-Some.line.len in
    let read = c.in-Some.ensures.reads in
    let left = left_over rest len read.within in
    let more = c.in_ok-answer_apart.ensures.done.did.lines in
    let ran = rw (take_rest rest len) at c.run_in_place-rest-in-Some.ensures in (
      gone_on _ _ _ _ _ _ _ _ _ _ (line_done _ _ _ _ _ rest _ _ _ _ _ len read c.lines.invariant.0 c.in_ok-answer_apart.ensures.done) ran.done,
      omega (arith, c.lines.invariant.1, left, read.some, more, ran.left),
      omega (arith, c.lines.invariant.2, left, read.some, more, ran.left),
      omega (arith, c.lines.invariant.3, left, ran.within),
      ran.failed,
    )

pub returns-then-rest-lt-WINDOW-clause-done : goal.returns-then-rest-lt-WINDOW-clause-done
returns-then-rest-lt-WINDOW-clause-done g c =
    result_on _ c.run_last_lines.result (λ rest. rest.now) _ _ _ _ _ _ _ _ c.lines.invariant.0 c.run_last_lines.ensures.done
