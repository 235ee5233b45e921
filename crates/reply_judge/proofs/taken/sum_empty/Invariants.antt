use Rattle.std.proofs.Common.{◌≡◌, ◌*◌, ◌^◌, ◌≤◌, ◌==◌, true, take, length}
use Rattle.std.specs.Prelude.{if◌then◌else◌}
use Rattle.std.specs.Option.{option_map_or}
use Rattle.std.specs.List.{sum_by, zip}
use Rattle.reply_judge.proofs.taken.sum_empty.Given as goal

abbrev pub invariant-loop-cache : goal.invariant-loop-cache
invariant-loop-cache l = record {
  summed : l.frames ≡ sum_by (λ p. if option_map_or (λ number. p.0.number == number) l.only true then p.1.empty * 2 ^ p.0.order else 0)
      (take (length l.yielded) (zip l.caches l.rows));
  most : l.frames ≤ length l.yielded * 2 ^ 42;
}
