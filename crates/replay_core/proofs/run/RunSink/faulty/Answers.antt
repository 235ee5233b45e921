use Rattle.std.proofs.Common.{refl}
use Rattle.replay_core.proofs.RunLemmas.{fault_done}
use Rattle.replay_core.proofs.run.RunSink.faulty.Goals as goal

pub returns-clause-done : goal.returns-clause-done
returns-clause-done g c line kernel read front =
    fault_done _ kernel _ _ _ _ line c.args.front.now _ _ _ _ read front.same c.show_to.ensures.shown refl refl refl c.faulty.ensures c.show_to.ensures.noted
