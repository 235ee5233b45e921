use Rattle.std.proofs.Common.{[], refl, arith, rules}
use Rattle.partmem.proofs.OwnRunOutcome.{own_written, own_traced, own_reached, own_ends}
use Rattle.partmem.proofs.ReplayOutcome.{booted, nothing_of}
use Rattle.streams.proofs.MoveLemmas.{consumes_nothing, appends_nothing, appends_kept}
use Rattle.partmem.proofs.own.run_own.Goals as goal

pub returns-clause-kept : goal.returns-clause-kept
returns-clause-kept g c =
    let said = c.keep-kept.ensures in
    let ran = said.kept in
    let stays = c.shown_stays.ensures.lines in
    let new = booted c.args.machine.now c.in-Ok.kernel c.in-Ok.ensures.parts c.in-Ok.ensures.shows in
    let appended = appends_kept _ _ _ ran.1 ran.3 c.flush-flushed.ensures.bytes in
    rw (c.after_flush.ensures, c.outcome_of_kept.ensures, c.send_failed.ensures) (
      ran.0,
      ran.1,
      _,
      ran.2,
      appended,
      own_reached _ _ _ _ _ _ _ ran.1 c.flush-flushed.ensures.failed c.flush-flushed.ensures.empty appended,
      own_written stays _ _ _ _ _ ran.0 ran.1 _ _ _ new ran.4 said.ended,
      omega (arith, ran.5),
      own_traced stays _ _ _ _ _ ran.0 ran.1 _ _ _ _ _ new ran.4 said.ended ran.2 said.whole,
    )

pub returns-clause-ended : goal.returns-clause-ended
returns-clause-ended g c =
    let said = c.keep-kept.ensures in
    rw (c.after_flush.ensures, c.outcome_of_kept.ensures, c.send_failed.ensures, c.flush-flushed.ensures.failed) (
    own_ends _ _ _ _ _ _ said.ended said.failed (search rules) c.flush-flushed.ensures.fine
    )

pub returns-in-Err-Memory-clause-kept : goal.returns-in-Err-Memory-clause-kept
returns-in-Err-Memory-clause-kept g c = ([], [], [], consumes_nothing _, appends_nothing _, refl, (refl, refl), omega arith, nothing_of _ _)
