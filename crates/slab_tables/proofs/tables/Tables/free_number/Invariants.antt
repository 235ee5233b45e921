use Rattle.std.proofs.Common.{ℕ, ◌<◌}
use Rattle.std.specs.Prelude.{IsSome}
use Rattle.slab_tables.specs.Content.{cache_at}
use Rattle.slab_tables.proofs.tables.Tables.free_number.Given as goal

abbrev pub invariant-loop-c : goal.invariant-loop-c
invariant-loop-c l = (d : ℕ) → d < l.c → IsSome (cache_at l.self l.t d)
