use Rattle.std.proofs.Common.{◌≡◌, ℕ, ◌+◌, ◌<◌, ◌≤◌, length, filter, slice_index}
use Rattle.promise_core.specs.Holdings.{is_vacant, blocks_of_slot}
use Rattle.known_holdings.proofs.VacantBlockMarks.{AreMarks}
use Rattle.known_holdings.proofs.held.Held.add_vacant.Given as goal

-- the slot's vacant blocks of each order below k are added to the counts, and the marks are those of the slot's blocks of order k
abbrev pub invariant-loop-k : goal.invariant-loop-k
invariant-loop-k l = record {
  long : length l.counts ≡ 11;
  marks_long : length l.taken ≡ 256;
  marks : l.k ≤ l.order → AreMarks l.self l.order l.k l.slot l.taken;
  added : (j : ℕ) → j < l.k → slice_index l.counts j ≡ slice_index l.fn.counts j + length (filter (is_vacant l.self) (blocks_of_slot l.order j l.slot));
  most : (j : ℕ) → slice_index l.counts j ≤ slice_index l.fn.counts j + 256;
  kept : (j : ℕ) → l.k ≤ j → slice_index l.counts j ≡ slice_index l.fn.counts j;
}
