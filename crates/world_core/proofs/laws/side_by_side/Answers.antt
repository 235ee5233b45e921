use Rattle.world_core.proofs.laws.side_by_side.Goals as goal
use Rattle.world_core.proofs.Commuting.{events_commute}
use Rattle.world_core.proofs.SideBySide.{same_world, same_replies, begun_as_ended}

pub returns : goal.returns
returns c = record { commute = events_commute; world = same_world; replies = same_replies; overlaps = begun_as_ended }
