use Rattle.std.proofs.Common.{◌≡◌, None}
use Rattle.reply_judge.proofs.VacantBlocksInTurn.{first_vacant}
use Rattle.reply_judge.proofs.vacancy.vacant_from.Given as goal

abbrev pub invariant-loop-i : goal.invariant-loop-i
invariant-loop-i l = first_vacant l.held l.k l.begin l.i ≡ None
