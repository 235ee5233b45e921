use Rattle.std.proofs.Common.{◌+◌, arith}
use Rattle.klist_core.specs.Places.{place_at}
use Rattle.klist_core.specs.Links.{down}
use Rattle.klist_core.proofs.Walks.{IsNotPast, way_placed, way_read, way_gone_on, way_ended, way_exhausted, way_shortened}
use Rattle.klist_core.proofs.Lists.last_below.Goals as goal
use Rattle.klist_core.proofs.Lists.last_below.Goals.{After-key_of}

pub loop-previous-init : goal.loop-previous-init
loop-previous-init c =
    let w = c.requires.from in
    way_gone_on down (place_at c.args.self.now.places) c.args.head (down c.args.key + 1) c.args.from w.0 _ (omega (arith, w.2)) (c.previous_of-previous.ensures c.args.head w.0 c.requires.by_key w.1)

pub key_of-requires : goal.key_of-requires
key_of-requires c = way_placed down (place_at c.args.self.now.places) c.args.head (down c.args.key + 1) c.in-Some.node (rw c.in-Some.is at c.loop-previous.invariant)

-- the node whose key was read is not past the node that the search looks for
here : (c : After-key_of) → IsNotPast down (place_at c.args.self.now.places) c.args.head (down c.args.key + 1) c.in-Some.node c.key_of.result
here c = way_read _ _ _ _ _ _ _ c.in-Some.is c.loop-previous.invariant c.key_of.ensures

pub returns-then-key_of-key : goal.returns-then-key_of-key
returns-then-key_of-key c = way_ended _ _ _ _ _ _ (here (goal.at.returns-then-key_of-key c).After-key_of) (omega (arith, c.if-key_of-key.true))

pub previous_of-previous-requires-in-Some : goal.previous_of-previous-requires-in-Some
previous_of-previous-requires-in-Some c = way_placed down (place_at c.args.self.now.places) c.args.head (down c.args.key + 1) c.in-Some.node (rw c.in-Some.is at c.loop-previous.invariant)

pub loop-previous-smaller : goal.loop-previous-smaller
loop-previous-smaller c =
    let p = here (goal.at.loop-previous-smaller c).After-key_of in
    rw c.in-Some.is (way_shortened _ _ _ _ _ _ _ p (omega (arith, c.key_of.type_inv)) (c.previous_of-previous-in-Some.ensures c.args.head c.key_of.result c.requires.by_key p.here))

pub loop-previous-preserved : goal.loop-previous-preserved
loop-previous-preserved c =
    let p = here (goal.at.loop-previous-preserved c).After-key_of in
    way_gone_on _ _ _ _ c.in-Some.node c.key_of.result _ (omega (arith, c.if-key_of-key.false, c.key_of.type_inv, c.ranges.key)) (c.previous_of-previous-in-Some.ensures c.args.head c.key_of.result c.requires.by_key p.here)

pub returns : goal.returns
returns c = rw c.in_default.is (way_exhausted down (place_at c.args.self.now.places) c.args.head (down c.args.key + 1) (rw c.in_default.is at c.loop-previous.invariant))
