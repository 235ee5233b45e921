use Rattle.std.proofs.Common.{◌≡◌, ◌+◌, ◌*◌, ◌^◌, ◌≤◌, ◌==◌, take, length}
use Rattle.std.specs.Prelude.{if◌then◌else◌}
use Rattle.std.specs.List.{sum_by, zip}
use Rattle.reply_judge.proofs.taken.count_slabs.Given as goal

abbrev pub invariant-loop-cache : goal.invariant-loop-cache
invariant-loop-cache l = record {
  summed : l.count ≡ sum_by (λ p. if p.0.order == l.k then p.1.full + p.1.partial + p.1.empty else 0)
      (take (length l.yielded) (zip l.caches l.rows));
  most : l.count ≤ length l.yielded * 2 ^ 34;
}
