use Rattle.klist_core.specs.Places.{IsPlacedByKey}
use Rattle.slab_tables.proofs.KeyedListWalk.{first_there, after_there}
use Rattle.slab_tables.proofs.places.keep.Goals as goal

pub loop-init : goal.loop-init
loop-init c = first_there c.args.lists.now.places c.args.head c.first_by_key-next.result c.requires.by_key c.first_by_key-next.ensures.least

pub after-next-requires-clause-placed : goal.after-next-requires-clause-placed
after-next-requires-clause-placed c = rw c.in-Some.is at c.loop.invariant

pub loop-preserved : goal.loop-preserved
loop-preserved c =
    let here : IsPlacedByKey c.args.lists.now.places c.in-Some.machine_frame = rw c.in-Some.is at c.loop.invariant in
    after_there c.args.lists.now.places here.list here.key c.after-next.result here.by_key (rw here.here at c.after-next.ensures)
