use Rattle.trace_check.proofs.LawLemmas.{kept_is_allowed}
use Rattle.trace_check.proofs.laws.kept_is_allowed.Goals as goal

pub returns : goal.returns
returns c = kept_is_allowed
