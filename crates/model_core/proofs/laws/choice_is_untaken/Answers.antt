use Rattle.model_core.proofs.ChosenBlock.{choice_is_untaken}
use Rattle.model_core.proofs.laws.choice_is_untaken.Goals as goal

pub returns : goal.returns
returns c = choice_is_untaken
