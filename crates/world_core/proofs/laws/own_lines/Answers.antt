use Rattle.world_core.proofs.laws.own_lines.Goals as goal
use Rattle.world_core.proofs.TenantLines as lines

pub returns : goal.returns
returns c = lines.own_lines
