use Rattle.world_core.proofs.ShownReplies.{ended_all_but_tail, ended_lines_stay, shown_stays}
use Rattle.world_core.proofs.laws.shown_stays.Goals as goal

pub returns : goal.returns
returns c = record { ended = ended_all_but_tail; lines = ended_lines_stay; shown = shown_stays }
