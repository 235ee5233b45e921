use Rattle.std.proofs.Common.{◌≡◌, ◌+◌, ◌-◌, drop, length}
use Rattle.std.specs.Prelude.{nat_le}
use Rattle.std.specs.List.{list_all, range_with_len}
use Rattle.promise_core.specs.Holdings.{vacant_blocks}
use Rattle.promise_core.specs.Promises.{frames_of_counts}
use Rattle.reply_judge.proofs.report.have_room.Given as goal

abbrev pub invariant-loop-k : goal.invariant-loop-k
invariant-loop-k l =
    list_all (λ k. nat_le (frames_of_counts (drop k l.free)) (length (vacant_blocks l.order l.held k))) (range_with_len l.k (l.order + 1 - l.k))
    ≡ list_all (λ k. nat_le (frames_of_counts (drop k l.free)) (length (vacant_blocks l.order l.held k))) (range_with_len 0 (l.order + 1))
