use Rattle.std.proofs.Common.{◌≡◌, ℕ, ◌<◌, Some, length, slice_get, slice_index}
use Rattle.model_core.specs.declared.report.OrderRow.{OrderRow}
use Rattle.frame_picture.proofs.showing.free_by_order.Given as goal

-- the numbers of free blocks of the orders so far are stored in `free`
abbrev pub invariant-loop-k : goal.invariant-loop-k
invariant-loop-k l = record {
  long : length l.free ≡ 11;
  told : (j : ℕ) (row : OrderRow) → j < l.k → slice_get l.rows j ≡ Some row → slice_index l.free j ≡ row.free;
}
