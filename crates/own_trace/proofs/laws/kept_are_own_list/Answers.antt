use Rattle.own_trace.proofs.KeptLines as kept
use Rattle.own_trace.proofs.laws.kept_are_own_list.Goals as goal

pub returns : goal.returns
returns c = kept.kept_are_own_list
