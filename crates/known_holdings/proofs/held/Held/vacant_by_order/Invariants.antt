use Rattle.std.proofs.Common.{◌≡◌, ℕ, ◌*◌, ◌≤◌, length, filter, take, slice_index}
use Rattle.std.specs.List.{sum_by}
use Rattle.promise_core.specs.Holdings.{is_vacant, blocks_of_slot}
use Rattle.known_holdings.proofs.held.Held.vacant_by_order.Given as goal

-- count k is the number of vacant blocks of order k in the slots that the loop has passed
abbrev pub invariant-loop-slot : goal.invariant-loop-slot
invariant-loop-slot l = record {
  long : length l.counts ≡ 11;
  counted : (k : ℕ) → k ≤ l.order → slice_index l.counts k
      ≡ sum_by (λ u. length (filter (is_vacant l.self) (blocks_of_slot l.order k u))) (take l.slot-index l.self.slots);
  most : (k : ℕ) → slice_index l.counts k ≤ 256 * l.slot-index;
}
