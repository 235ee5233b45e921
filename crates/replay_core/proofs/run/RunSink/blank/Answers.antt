use Rattle.std.proofs.Common.{refl}
use Rattle.replay_core.proofs.RunLemmas.{blank_done}
use Rattle.replay_core.proofs.run.RunSink.blank.Goals as goal

pub returns-clause-done : goal.returns-clause-done
returns-clause-done g c line kernel known read = blank_done _ kernel line known c.args.self.now _ read refl refl refl refl refl
