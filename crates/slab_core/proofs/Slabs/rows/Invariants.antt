use Rattle.std.proofs.Common.{◌≡◌, ◌≤◌, map}
use Rattle.arrayvec.specs.ArrayVec.{array_vec_len}
use Rattle.model_core.specs.Machine.{Machine}
use Rattle.space_core.specs.Content as spaces
use Rattle.buddy_core.specs.Content as buddies
use Rattle.machine_changes.specs.Shows.{Agree, ShowsMachine}
use Rattle.machine_changes.specs.Steady.{IsSteady}
use Rattle.model_core.specs.Reports.{row_of_cache}
use Rattle.slab_core.proofs.ReportAllCaches.{below}
use Rattle.slab_core.proofs.Slabs.rows.Given as goal

abbrev pub invariant-loop-c : goal.invariant-loop-c
invariant-loop-c l =
    (array_vec_len l.rows ≤ l.c)
    × ((r : spaces.Content) (b : buddies.Content) (m : Machine) → Agree r b l.self → IsSteady r b l.self l.t → ShowsMachine r b l.self l.t m
    → l.rows.items ≡ map row_of_cache (below (λ x. x.number) l.c m.caches))
