use Rattle.std.proofs.Common.{◌≡◌, Some, sym, ap, ◌∙◌, Ok}
use Rattle.words_core.specs.Grammar.{reading_of}
use Rattle.replay_core.specs.Doing.{HasDone}
use Rattle.replay_core.proofs.DoingLemmas.{done_then}
use Rattle.replay_core.proofs.PendingLemmas.{event_short}
use Rattle.replay_core.proofs.answering.answer.Goals as goal

pub returns-clause-done : goal.returns-clause-done
returns-clause-done g c line read front =
    let contents = g.D.Drain.contents in
    let first : HasDone g.S.Sink.does_first (c.args.sink.now, c.args.kernel.now) line (contents c.args.drain.now) (contents c.match-reading.drain)
    c.match-reading.done (c.match-reading.sink, c.match-reading.kernel) =
    elim c.match-reading.branch [
      | goal.in-Ok-Some w ↦
          let said : reading_of line ≡ Ok (Some w.in-Ok-Some.event) = sym read ∙ w.in-Ok-Some.is ∙ ap (λ x. Ok x) w.in-Ok-Some.field-0-is in
          let whole : c.args.front.now ≡ line = front.whole (event_short line _ said) in
          rw (w.kernel-is, w.sink-is, w.drain-is, w.done-is) ((rw whole at w.run_event-done.ensures.done) said)
      | goal.in-Ok-None w ↦
          rw (w.kernel-is, w.sink-is, w.drain-is, w.done-is)
          (w.blank.ensures.done line _ _ (sym read ∙ w.in-Ok-None.is ∙ ap (λ x. Ok x) w.in-Ok-None.field-0-is))
      | goal.in-Err w ↦ rw (w.kernel-is, w.sink-is, w.drain-is, w.done-is) (w.faulty-done.ensures.done line _ (sym read ∙ w.in-Err.is) front)
    ] in
    done_then _ _ _ _ _ line _ _ _ first (c.ran.ensures.done _ line)
