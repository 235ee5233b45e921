use Rattle.world_core.proofs.ReachedObjects.{reached_apart, reached_records_free, reached_constructed, reached_constructed_when_taken}
use Rattle.world_core.proofs.laws.reached_objects.Goals as goal

pub returns : goal.returns
returns c = record {
  apart = reached_apart;
  records = reached_records_free;
  constructed = reached_constructed;
  taken = reached_constructed_when_taken;
}
