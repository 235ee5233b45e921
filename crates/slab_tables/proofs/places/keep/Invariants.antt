use Rattle.slab_tables.proofs.KeyedListWalk.{IsThere}
use Rattle.slab_tables.proofs.places.keep.Given as goal

abbrev pub invariant-loop : goal.invariant-loop
invariant-loop l = IsThere l.lists.places l.next
