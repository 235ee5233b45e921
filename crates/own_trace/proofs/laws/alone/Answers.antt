use Rattle.own_trace.proofs.OwnListAlone.{own_list_alone, lines_alone}
use Rattle.own_trace.proofs.laws.alone.Goals as goal

pub returns : goal.returns
returns c = record { list = own_list_alone; lines = lines_alone }
