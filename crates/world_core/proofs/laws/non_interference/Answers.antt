use Rattle.world_core.proofs.laws.non_interference.Goals as goal
use Rattle.world_core.proofs.OwnListRuns.{same_replies, same_texts}
use Rattle.world_core.proofs.TenantLines.{same_lines}

pub returns : goal.returns
returns c = record { replies = same_replies; texts = same_texts; lines = same_lines }
