use Rattle.words_core.proofs.CaseLemmas.{says_reading, one_number}
use Rattle.words_core.proofs.laws.one_case.Goals as goal

pub returns-clause-some : goal.returns-clause-some
returns-clause-some c = says_reading

pub returns-clause-only : goal.returns-clause-only
returns-clause-only c = one_number
