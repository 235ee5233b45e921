use Rattle.std.proofs.Common.{◌≡◌}
use Rattle.std.specs.List.{All}
use Rattle.std.specs.Vec.{vec_len}
use Rattle.slab_core.proofs.block_set.make_sets.Given as goal

abbrev pub invariant-loop : goal.invariant-loop
invariant-loop l = record { tenants : vec_len l.sets ≡ l.counter; words : All (λ set. vec_len set ≡ l.words) l.sets.items }
