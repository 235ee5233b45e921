use Rattle.std.proofs.Common.{◌≡◌, ◌+◌, ◌*◌}
use Rattle.slab_tables.proofs.places.near_below.Given as goal

abbrev pub invariant-loop : goal.invariant-loop
invariant-loop l = l.below + l.counter * l.step ≡ l.above
