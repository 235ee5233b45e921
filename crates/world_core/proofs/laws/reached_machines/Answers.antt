use Rattle.world_core.proofs.ReachedMachines.{reached_well_formed, reached_sound, reached_free_once, reached_splits, reached_joins}
use Rattle.world_core.proofs.laws.reached_machines.Goals as goal

pub returns : goal.returns
returns c = record {
  well_formed = reached_well_formed;
  sound = reached_sound;
  free_once = reached_free_once;
  splits = reached_splits;
  joins = reached_joins;
}
