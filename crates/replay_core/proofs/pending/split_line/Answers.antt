use Rattle.std.proofs.Common.{◌+◌, sym}
use Rattle.std.proofs.lemmas.List.{take_rest}
use Rattle.streams.proofs.LineLemmas.{found_cut, none_cut}
use Rattle.replay_core.proofs.pending.split_line.Goals as goal

pub returns-in_default : goal.returns-in_default
returns-in_default c = none_cut c.args.bytes.now (sym c.in_default.ensures.at)

pub returns : goal.returns
returns c = rw (take_rest c.args.bytes.now (c.in-Some.end + 1)) (found_cut c.args.bytes.now c.in-Some.end (sym c.in-Some.ensures.at))
