use Rattle.model_core.proofs.BlockChoice.{free_is_tested, choice_is_found, one_choice}
use Rattle.model_core.proofs.block_laws.choice_is_found.Goals as goal

pub returns-clause-tested : goal.returns-clause-tested
returns-clause-tested c = free_is_tested

pub returns-clause-found : goal.returns-clause-found
returns-clause-found c = choice_is_found

pub returns-clause-only : goal.returns-clause-only
returns-clause-only c = one_choice
