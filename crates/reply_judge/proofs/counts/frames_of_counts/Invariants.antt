use Rattle.std.proofs.Common.{◌≡◌, ◌+◌, ◌*◌, ◌^◌, ◌≤◌, drop}
use Rattle.promise_core.specs.Promises.{frames_of_counts}
use Rattle.reply_judge.proofs.counts.frames_of_counts.Given as goal

abbrev pub invariant-loop-order : goal.invariant-loop-order
invariant-loop-order l = record {
  summed : l.frames + 2 ^ l.order * frames_of_counts (drop l.order l.counts) ≡ frames_of_counts l.counts;
  most : l.frames ≤ l.order * 2 ^ 42;
}
