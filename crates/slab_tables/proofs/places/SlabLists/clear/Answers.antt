use Rattle.std.proofs.Common.{subst, sym, arith}
use Rattle.klist_core.specs.Places.{Placed, place_at}
use Rattle.klist_core.proofs.WalkToKey.{in_placed}
use Rattle.klist_core.proofs.PlacesChanged.{placed_within, count_removed}
use Rattle.slab_tables.proofs.ListEmptied.{IsEmptying, emptying_none, emptying_more, emptying_all}
use Rattle.slab_tables.proofs.places.SlabLists.clear.Goals as goal

pub loop-machine_frame-init : goal.loop-machine_frame-init
loop-machine_frame-init c = emptying_none c.args.self.now c.args.head

pub loop-machine_frame-preserved : goal.loop-machine_frame-preserved
loop-machine_frame-preserved c =
    let here = in_placed c.args.head (place_at c.loop-machine_frame.self.places c.in-Some.machine_frame) (rw c.in-Some.is at c.any.ensures) in
    subst (λ (s : Placed). IsEmptying c.args.self.now s c.args.head) (sym c.remove.ensures)
    (emptying_more c.args.self.now c.loop-machine_frame.self c.args.head c.in-Some.machine_frame here.0 c.loop-machine_frame.invariant here.1)

pub loop-machine_frame-smaller : goal.loop-machine_frame-smaller
loop-machine_frame-smaller c =
    let here = in_placed c.args.head (place_at c.loop-machine_frame.self.places c.in-Some.machine_frame) (rw c.in-Some.is at c.any.ensures) in
    let less = count_removed c.loop-machine_frame.self.places c.args.head c.in-Some.machine_frame here.0 (placed_within _ _ _ here.1) here.1 in
    rw c.remove.ensures (omega (arith, less))

pub returns : goal.returns
returns c = emptying_all c.args.self.now c.loop-machine_frame.self c.args.head c.loop-machine_frame.invariant (rw c.in_default.is at c.any.ensures)
