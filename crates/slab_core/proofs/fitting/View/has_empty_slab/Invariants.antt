use Rattle.std.proofs.Common.{ℕ, ◌<◌}
use Rattle.klist_core.specs.Places.{IsEmpty}
use Rattle.slab_tables.specs.Content.{head_of}
use Rattle.slab_core.proofs.fitting.View.has_empty_slab.Given as goal

abbrev pub invariant-loop-c : goal.invariant-loop-c
invariant-loop-c l = (d : ℕ) → d < l.c → IsEmpty l.self.tables.now.lists.places (head_of l.self.tenant d 2)
