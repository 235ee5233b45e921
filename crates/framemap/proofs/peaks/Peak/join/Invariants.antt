use Rattle.std.proofs.Common.{◌≡◌, ℕ, ◌+◌, ◌*◌, ◌<◌, ◌≤◌, max, slice_index, vec_len}
use Rattle.framemap.proofs.peaks.Peak.join.Given as goal

-- each column j below i is the greater one of the old columns 2 * j and 2 * j + 1, and the columns from 2 * i on are unchanged
abbrev pub invariant-loop-i : goal.invariant-loop-i
invariant-loop-i l = record {
  now : l.self.now ≡ l.fn.self.now;
  since : l.self.since ≡ l.fn.self.since;
  long : vec_len l.self.columns ≡ vec_len l.fn.self.columns;
  passed : (j : ℕ) → j < l.i → slice_index l.self.columns.items j
      ≡ max (slice_index l.fn.self.columns.items (2 * j)) (slice_index l.fn.self.columns.items (2 * j + 1));
  ahead : (j : ℕ) → 2 * l.i ≤ j → slice_index l.self.columns.items j ≡ slice_index l.fn.self.columns.items j;
}
