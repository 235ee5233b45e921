use Rattle.std.proofs.Common.{◌≡◌, ◌≤◌, ◌*◌, filter, length, take}
use Rattle.std.specs.List.{sum_by}
use Rattle.promise_core.specs.Holdings.{is_vacant, blocks_of_slot}
use Rattle.known_holdings.proofs.held.Held.count_vacant.Given as goal

abbrev pub invariant-loop-slot : goal.invariant-loop-slot
invariant-loop-slot l = record {
  counted : l.count ≡ sum_by (λ u. length (filter (is_vacant l.self) (blocks_of_slot l.order l.k u))) (take l.slot-index l.self.slots);
  most : l.count ≤ 256 * l.slot-index;
}
