use Rattle.std.proofs.Common.{sym, ap}
use Rattle.machine_changes.specs.Shows.{has_slab}
use Rattle.slab_core.proofs.ObjectsInRange.{nowhere, no_block, no_slab}
use Rattle.slab_core.proofs.Slabs.object_at.Goals as goal

pub returns-in_default : goal.returns-in_default
returns-in_default c =
    let x = c.args in
    nowhere (no_block x.space.now x.buddy.now x.self.now x.t x.place x.len c.laws_with.ensures.steady c.in_default.ensures)

pub returns-in_default-machine_frame : goal.returns-in_default-machine_frame
returns-in_default-machine_frame c =
    let x = c.args in
    nowhere (no_slab x.space.now x.buddy.now x.self.now x.t x.place x.len c.laws_with.ensures.steady c.in-Some.first c.in-Some.order
    c.in-Some.ensures.0 c.in-Some.ensures.1 (ap (has_slab x.self.now) (sym c.in_default-machine_frame.ensures.value)))
