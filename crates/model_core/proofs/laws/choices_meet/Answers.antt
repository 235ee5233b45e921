use Rattle.model_core.proofs.ChosenBlock.{choices_meet}
use Rattle.model_core.proofs.laws.choices_meet.Goals as goal

pub returns : goal.returns
returns c = choices_meet
