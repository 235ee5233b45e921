use Rattle.std.proofs.Common.{◌+◌, arith}
use Rattle.klist_core.specs.Places.{place_at}
use Rattle.klist_core.specs.Links.{up}
use Rattle.klist_core.proofs.Walks.{IsNotPast, way_placed, way_read, way_gone_on, way_ended, way_exhausted, way_shortened}
use Rattle.klist_core.proofs.Lists.first_above.Goals as goal
use Rattle.klist_core.proofs.Lists.first_above.Goals.{After-key_of}

pub loop-next-init : goal.loop-next-init
loop-next-init c =
    let w = c.requires.from in
    way_gone_on up (place_at c.args.self.now.places) c.args.head (up c.args.key + 1) c.args.from w.0 _ (omega (arith, w.2)) (c.next_of-next.ensures c.args.head w.0 c.requires.by_key w.1)

pub key_of-requires : goal.key_of-requires
key_of-requires c = way_placed up (place_at c.args.self.now.places) c.args.head (up c.args.key + 1) c.in-Some.node (rw c.in-Some.is at c.loop-next.invariant)

-- the node whose key was read is not past the node that the search looks for
here : (c : After-key_of) → IsNotPast up (place_at c.args.self.now.places) c.args.head (up c.args.key + 1) c.in-Some.node c.key_of.result
here c = way_read _ _ _ _ _ _ _ c.in-Some.is c.loop-next.invariant c.key_of.ensures

pub returns-then-key-key_of : goal.returns-then-key-key_of
returns-then-key-key_of c = way_ended _ _ _ _ _ _ (here (goal.at.returns-then-key-key_of c).After-key_of) (omega (arith, c.if-key-key_of.true))

pub next_of-next-requires-in-Some : goal.next_of-next-requires-in-Some
next_of-next-requires-in-Some c = way_placed up (place_at c.args.self.now.places) c.args.head (up c.args.key + 1) c.in-Some.node (rw c.in-Some.is at c.loop-next.invariant)

pub loop-next-smaller : goal.loop-next-smaller
loop-next-smaller c =
    let p = here (goal.at.loop-next-smaller c).After-key_of in
    rw c.in-Some.is (way_shortened _ _ _ _ _ _ _ p (omega (arith, c.key_of.type_inv)) (c.next_of-next-in-Some.ensures c.args.head c.key_of.result c.requires.by_key p.here))

pub loop-next-preserved : goal.loop-next-preserved
loop-next-preserved c =
    let p = here (goal.at.loop-next-preserved c).After-key_of in
    way_gone_on _ _ _ _ c.in-Some.node c.key_of.result _ (omega (arith, c.if-key-key_of.false, c.key_of.type_inv, c.ranges.key)) (c.next_of-next-in-Some.ensures c.args.head c.key_of.result c.requires.by_key p.here)

pub returns : goal.returns
returns c = rw c.in_default.is (way_exhausted up (place_at c.args.self.now.places) c.args.head (up c.args.key + 1) (rw c.in_default.is at c.loop-next.invariant))
