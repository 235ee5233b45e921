use Rattle.std.proofs.Common.{◌≡◌, drop}
use Rattle.reply_judge.specs.Vacancy.{vacant_in}
use Rattle.reply_judge.proofs.vacancy.vacant_in.Given as goal

abbrev pub invariant-loop-slot : goal.invariant-loop-slot
invariant-loop-slot l = vacant_in l.order l.held l.k (drop l.slot-index l.slots) ≡ vacant_in l.order l.held l.k l.slots
