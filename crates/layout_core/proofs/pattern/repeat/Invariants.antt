use Rattle.std.proofs.Common.{◌≡◌, ℕ, ◌-◌, ◌%◌, ◌<◌, length, slice_index}
use Rattle.layout_core.proofs.pattern.repeat.Given as goal

abbrev pub invariant-loop-done : goal.invariant-loop-done
invariant-loop-done l = record {
  some : 0 < l.done;
  whole : l.done % l.period ≡ 0;
  size : length l.out ≡ length l.fn.out;
  bytes : (j : ℕ) → j < l.done → j < length l.fn.out → slice_index l.out j ≡ slice_index l.fn.out (j % l.period);
}

abbrev pub decreases-loop-done : goal.decreases-loop-done
decreases-loop-done l = length l.fn.out - l.done
