use Rattle.trace_check.proofs.LawLemmas.{broken_is_not_allowed}
use Rattle.trace_check.proofs.laws.broken_is_not_allowed.Goals as goal

pub returns : goal.returns
returns c = broken_is_not_allowed
