use Rattle.slab_core.proofs.ObjectsInRange.{is_found}
use Rattle.slab_core.proofs.Slabs.object_in.Goals as goal

pub returns : goal.returns
returns c =
    let x = c.args in
    rw c.is_some.ensures (is_found x.space.now x.self.now x.t x.place x.len c.object_around.result c.object_around.ensures)
