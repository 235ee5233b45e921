use Rattle.std.proofs.Common.{arith}
use Rattle.std.proofs.lemmas.List.{take_rest}
use Rattle.replay_core.proofs.DoingLemmas.{gone_nothing}
use Rattle.replay_core.proofs.QuickLemmas.{line_done, left_over}
use Rattle.replay_core.proofs.run.Run.run_in_place.Goals as goal

pub lines-init : goal.lines-init
lines-init g c = (gone_nothing _ _ _ _, omega arith, c.requires.more, omega arith, c.requires.fine)

pub lines-preserved : goal.lines-preserved
lines-preserved g c =
    let rest = c.lines.rest.now in
    let (tenant, command, read, done, fine) = c.in-Some.ensures in
    let left = left_over rest c.in-Some.len read.within in
    let more = done.did.lines in
    rw (take_rest rest c.in-Some.len) (
      line_done _ _ _ _ _ rest _ _ _ tenant command c.in-Some.len read c.lines.invariant.0 done,
      omega (arith, c.lines.invariant.1, left, read.some, more),
      omega (arith, c.lines.invariant.2, left, read.some, more),
      omega (arith, c.lines.invariant.3, left),
      fine,
    )
