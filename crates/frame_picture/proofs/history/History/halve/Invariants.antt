use Rattle.std.proofs.Common.{◌≡◌, ℕ, ◌+◌, ◌*◌, ◌<◌, ◌≤◌, slice_get, vec_len}
use Rattle.frame_picture.proofs.history.History.halve.Given as goal

-- Each column j below i is the old column 2 * j + 1. The columns from 2 * i on are unchanged, and so are all other fields.
abbrev pub invariant-loop-i : goal.invariant-loop-i
invariant-loop-i l = record {
  lines : l.self.lines ≡ l.initial.self.lines;
  width : l.self.width ≡ l.initial.self.width;
  kept : l.self.kept ≡ l.initial.self.kept;
  order : l.self.order ≡ l.initial.self.order;
  superblocks : l.self.superblocks ≡ l.initial.self.superblocks;
  tenants : l.self.tenants ≡ l.initial.self.tenants;
  refused : l.self.refused.items ≡ l.initial.self.refused.items;
  most_columns : vec_len l.self.columns ≡ vec_len l.initial.self.columns;
  passed : (j : ℕ) → j < l.i → slice_get l.self.columns.items j ≡ slice_get l.initial.self.columns.items (2 * j + 1);
  ahead : (j : ℕ) → 2 * l.i ≤ j → slice_get l.self.columns.items j ≡ slice_get l.initial.self.columns.items j;
}
