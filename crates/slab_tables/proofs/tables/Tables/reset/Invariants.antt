use Rattle.slab_tables.specs.Changes.{IsCleared}
use Rattle.slab_tables.proofs.CachesCleared.{those_below}
use Rattle.slab_tables.proofs.tables.Tables.reset.Given as goal

abbrev pub invariant-loop-number : goal.invariant-loop-number
invariant-loop-number l = IsCleared l.initial.self l.self (those_below l.t l.number)
