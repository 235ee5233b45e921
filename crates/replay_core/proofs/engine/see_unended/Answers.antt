use Rattle.replay_core.proofs.DoingLemmas.{has_left}
use Rattle.replay_core.proofs.PendingLemmas.{held_front}
use Rattle.replay_core.proofs.PushLemmas.{some_left}
use Rattle.replay_core.proofs.engine.see_unended.Goals as goal

pub returns-then-not-is_empty : goal.returns-then-not-is_empty
returns-then-not-is_empty g c tail holds =
    has_left g.S.Sink.leaves c.args.sink.now tail _ (some_left tail _ (c.is_empty.ensures tail holds) c.if-not-is_empty.true)
    (c.unended.ensures tail (c.reading.ensures.reading tail holds) (held_front _ _ _ holds c.as_slice.ensures.value))
