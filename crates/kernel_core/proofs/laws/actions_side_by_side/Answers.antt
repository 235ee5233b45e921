use Rattle.kernel_core.proofs.laws.actions_side_by_side.Goals as goal
use Rattle.kernel_core.proofs.ActionsAnyOrder.{same_world_after_actions, same_outcomes, actions_begun_as_ended}
use Rattle.kernel_core.proofs.SightsAnyOrder.{same_sights_in_any_order}

pub returns : goal.returns
returns c = record {
  world = same_world_after_actions;
  outcomes = same_outcomes;
  sights = same_sights_in_any_order;
  overlaps = actions_begun_as_ended;
}
