use Rattle.world_core.proofs.ShownReplies.{all_shown, own_shown, own_lines_shown}
use Rattle.world_core.proofs.laws.own_shown.Goals as goal

pub returns : goal.returns
returns c = record { all = all_shown; bytes = own_shown; lines = own_lines_shown }
