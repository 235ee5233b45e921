use Rattle.world_core.proofs.AskableCommands as asked
use Rattle.world_core.proofs.laws.own_lists_are_requests.Goals as goal

pub returns : goal.returns
returns c = asked.own_lists_are_requests
