use Rattle.klist_core.proofs.PlacesChanged.{some_within}
use Rattle.slab_tables.proofs.TableReads.{shown}
use Rattle.slab_tables.proofs.InvariantKept.{slabs_without}
use Rattle.slab_tables.proofs.tables.Tables.remove_slab.Goals as goal

pub invariant_of-self : goal.invariant_of-self
invariant_of-self c =
    rw c.remove.ensures
    (record {
      slabs = slabs_without (shown c.self.inside) c.args.machine_frame c.self.invariant.slabs (some_within _ c.args.machine_frame (rw (← c.self.view_is) at c.requires.placed)) (rw (← c.self.view_is) at c.requires.empty);
      ends = c.self.invariant.ends;
    })
