use Rattle.std.proofs.Common.{◌-◌, [], take, drop, arith}
use Rattle.std.proofs.lemmas.List.{take_rest}
use Rattle.replay_core.proofs.DoingLemmas.{gone_nothing, gone_end, stopped_end, at_error}
use Rattle.replay_core.proofs.QuickLemmas.{front_cut, left_over}
use Rattle.own_trace.proofs.quick.keep_ended_lines.Goals as goal

pub lines-init : goal.lines-init
lines-init g c = (λ own same. gone_nothing _ _ _ _, omega arith, c.requires)

pub returns-in_err-keep_request-clause-done : goal.returns-in_err-keep_request-clause-done
returns-in_err-keep_request-clause-done g c own same =
    let rest = c.lines.rest.now in
    let len = c.in-Some.line.len in
    let read = c.in-Some.ensures.reads in
    let cut = front_cut rest _ _ len read in
    at_error _ _ c.from_residual.result c.from_residual.ensures.0
    (λ _. stopped_end _ _ _ _ _ [] rest (take (len - 1) rest) (drop len rest) _ _ _ c.in_err-keep_request.field-0.0 (c.lines.invariant.0 own same) tt cut.0 cut.1
    (c.in_err-keep_request.ensures.done own same read.reading))

pub lines-preserved : goal.lines-preserved
lines-preserved g c =
    let rest = c.lines.rest.now in
    let len = c.in-Some.line.len in
    let read = c.in-Some.ensures.reads in
    let cut = front_cut rest _ _ len read in
    let left = left_over rest len read.within in
    rw (take_rest rest len) (
      λ own same. gone_end _ _ _ _ _ [] rest (take (len - 1) rest) (drop len rest) _ _ _ (c.lines.invariant.0 own same) tt cut.0 cut.1
          (c.in_ok-keep_request.ensures.done own same read.reading),
      omega (arith, c.lines.invariant.1, left),
      c.in_ok-keep_request.ensures.failed,
    )
