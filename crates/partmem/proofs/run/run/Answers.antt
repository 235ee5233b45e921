use Rattle.std.proofs.Common.{[], refl, arith, rules}
use Rattle.partmem.proofs.PromisesKept.{promises_kept}
use Rattle.partmem.proofs.ReplayOutcome.{booted, answers, given_so_far, traced, tallied, reached, ends, nothing_of}
use Rattle.partmem.proofs.NotedRun.{noted}
use Rattle.streams.proofs.MoveLemmas.{consumes_nothing, appends_nothing, appends_kept}
use Rattle.partmem.proofs.run.run.Goals as goal

pub returns-clause-ran : goal.returns-clause-ran
returns-clause-ran g c =
    let said = c.replay_noted-replayed.ensures in
    let ran = said.ran in
    let stays = c.shown_stays.ensures.shown in
    let new = booted c.args.machine.now c.in-Ok.kernel c.in-Ok.ensures.parts c.in-Ok.ensures.shows in
    let appended = appends_kept _ _ _ ran.1 ran.3 c.flush-flushed.ensures.bytes in
    rw (c.after_flush.ensures, c.outcome_of.ensures, c.tally_of.ensures, c.unwritten.ensures, c.send_failed.ensures) (
      ran.0,
      ran.1,
      _,
      ran.2,
      appended,
      reached _ _ _ _ _ _ _ ran.1 c.flush-flushed.ensures.failed c.flush-flushed.ensures.empty appended,
      answers stays _ _ _ _ ran.0 ran.1 _ _ _ new ran.4 said.ended ran.5,
      tallied _ _ _ _ _ _ ran.0 ran.1 _ _ _ _ new ran.4 said.ended said.failed,
      omega (arith, ran.6),
      traced stays _ _ _ _ ran.0 ran.1 _ _ _ _ new ran.4 said.ended (λ more over. given_so_far _ _ _ _ ran.0 more said.ended over) ran.2 said.whole,
      noted g.N.Notes.noting _ _ _ _ ran.0 ran.1 _ _ _ _ c.args.notes.now c.replay_noted-replayed.new.notes new ran.4 said.ended refl ran.7,
    )

pub returns-clause-ended : goal.returns-clause-ended
returns-clause-ended g c =
    let said = c.replay_noted-replayed.ensures in
    rw (c.after_flush.ensures, c.outcome_of.ensures, c.send_failed.ensures, c.flush-flushed.ensures.failed) (
    ends _ _ _ _ _ _ said.ended said.failed (search rules) c.flush-flushed.ensures.fine
    )

pub returns-in-Err-Memory-clause-ran : goal.returns-in-Err-Memory-clause-ran
returns-in-Err-Memory-clause-ran g c =
    rw c.at_once.ensures ([], [], [], consumes_nothing _, appends_nothing _, refl, (refl, refl), refl, omega arith, nothing_of _ _, refl)

pub returns-clause-promises : goal.returns-clause-promises
returns-clause-promises g c =
    let ran = returns-clause-ran g c in
    (ran.0, ran.1, ran.2, ran.3, ran.4, ran.5, promises_kept c.args.machine.now _ ran.0 ran.1 (assumption c.well_formed) ran.6, ran.7)

pub returns-in-Err-Memory-clause-promises : goal.returns-in-Err-Memory-clause-promises
returns-in-Err-Memory-clause-promises g c =
    rw c.at_once.ensures ([], [], [], consumes_nothing _, appends_nothing _, refl, (refl, refl), refl)
