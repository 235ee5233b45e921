use Rattle.std.proofs.Common.{refl}
use Rattle.replay_core.proofs.RunLemmas.{event_done}
use Rattle.replay_core.proofs.run.RunSink.answered.Goals as goal

pub returns-clause-done : goal.returns-clause-done
returns-clause-done g c before after read steps = event_done _ before after _ _ _ _ _ _ _ _ _ read steps c.show_to.ensures.shown refl refl refl c.show_to.ensures.noted
