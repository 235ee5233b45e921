use Rattle.std.proofs.Common.{◌≡◌, map, take}
use Rattle.reply_judge.proofs.counts.counts_of.Given as goal

abbrev pub invariant-loop-row : goal.invariant-loop-row
invariant-loop-row l = record {
  free : l.free.items ≡ map (λ row. row.free) (take l.row-index l.row-items);
  taken : l.taken.items ≡ map (λ row. row.taken) (take l.row-index l.row-items);
}
