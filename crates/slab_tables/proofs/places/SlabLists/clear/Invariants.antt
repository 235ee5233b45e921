use Rattle.std.specs.Prelude.{count_by}
use Rattle.klist_core.specs.Places.{is_in}
use Rattle.slab_tables.proofs.ListEmptied.{IsEmptying}
use Rattle.slab_tables.proofs.places.SlabLists.clear.Given as goal

abbrev pub invariant-loop-machine_frame : goal.invariant-loop-machine_frame
invariant-loop-machine_frame l = IsEmptying l.initial.self l.self l.head

abbrev pub decreases-loop-machine_frame : goal.decreases-loop-machine_frame
decreases-loop-machine_frame l = count_by (is_in l.head) l.self.places
