use Rattle.promise_kept.proofs.TakeCommand.{take_kept}
use Rattle.promise_kept.proofs.object_laws.take_is_kept.Goals as goal

pub returns : goal.returns
returns c = take_kept
