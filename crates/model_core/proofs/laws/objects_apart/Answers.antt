use Rattle.model_core.proofs.ObjectsApart.{taken_apart, objects_apart, records_free}
use Rattle.model_core.proofs.laws.objects_apart.Goals as goal

pub returns : goal.returns
returns c = record { blocks = taken_apart; objects = objects_apart; records = records_free }
