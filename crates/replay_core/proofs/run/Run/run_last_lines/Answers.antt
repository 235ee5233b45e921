use Rattle.std.proofs.Common.{◌+◌, arith, sym}
use Rattle.std.proofs.lemmas.List.{take_rest}
use Rattle.replay_core.proofs.DoingLemmas.{gone_nothing, at_error}
use Rattle.replay_core.proofs.QuickLemmas.{reads_alone, line_done, line_stopped, left_over}
use Rattle.replay_core.proofs.run.Run.run_last_lines.Goals as goal

pub lines-init : goal.lines-init
lines-init g c = (gone_nothing _ _ _ _, omega arith, c.requires.more, omega arith, c.requires.fine)

pub returns-in_err-answer_apart-clause-done : goal.returns-in_err-answer_apart-clause-done
returns-in_err-answer_apart-clause-done g c =
    let rest = c.lines.rest.now in
    let end = c.in-Some.end in
    let read = reads_alone rest end _ _ c.in-Some.ensures.within (sym c.in-Some.ensures.at) c.in-Some-read_alone.ensures.reads in
    at_error _ _ c.from_residual.result c.from_residual.ensures.0
    (λ _. line_stopped _ _ _ _ _ rest _ _ _ c.in_err-answer_apart.field-0.0 _ _ (end + 1) read c.lines.invariant.0 c.in_err-answer_apart.ensures.done)

pub lines-preserved : goal.lines-preserved
lines-preserved g c =
    let rest = c.lines.rest.now in
    let end = c.in-Some.end in
    let read = reads_alone rest end _ _ c.in-Some.ensures.within (sym c.in-Some.ensures.at) c.in-Some-read_alone.ensures.reads in
    let left = left_over rest (end + 1) read.within in
    let more = c.in_ok-answer_apart.ensures.done.did.lines in
    rw (take_rest rest (end + 1)) (
      line_done _ _ _ _ _ rest _ _ _ _ _ (end + 1) read c.lines.invariant.0 c.in_ok-answer_apart.ensures.done,
      omega (arith, c.lines.invariant.1, left, more),
      omega (arith, c.lines.invariant.2, left, more),
      omega (arith, c.lines.invariant.3, left),
      c.in_ok-answer_apart.ensures.failed,
    )
