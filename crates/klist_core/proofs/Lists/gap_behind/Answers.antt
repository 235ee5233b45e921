use Rattle.klist_core.specs.Places.{place_at}
use Rattle.klist_core.proofs.WalkToKey.{behind_last, behind_next, behind_previous, behind_on, behind_placed, behind_nearer}
use Rattle.klist_core.proofs.Lists.gap_behind.Goals as goal

pub loop-next-init : goal.loop-next-init
loop-next-init c =
    let w = c.requires.from in
    record { own = w.0; here = w.1; below = w.2; after = c.next_of-next.ensures c.args.head w.0 c.requires.by_key w.1 }

pub key_of-requires : goal.key_of-requires
key_of-requires c = behind_placed (place_at c.args.self.now.places) c.args.head c.args.key c.loop-next.previous c.in-Some.node (rw c.in-Some.is at c.loop-next.invariant)

pub returns-then-key-key_of-clause-previous : goal.returns-then-key-key_of-clause-previous
returns-then-key-key_of-clause-previous c =
    let place = place_at c.args.self.now.places in
    let v = rw c.in-Some.is at c.loop-next.invariant in
    behind_previous place c.args.head c.args.key c.loop-next.previous _ (record { below = λ i k e. c.laws.ensures.keyed i c.args.head k e }) c.ranges.key.fits v
    (behind_next place c.args.head c.args.key c.loop-next.previous c.in-Some.node c.key_of.result v c.key_of.ensures c.if-key-key_of.true)

pub returns-then-key-key_of-clause-next : goal.returns-then-key-key_of-clause-next
returns-then-key-key_of-clause-next c =
    let place = place_at c.args.self.now.places in
    let v = rw c.in-Some.is at c.loop-next.invariant in
    behind_next place c.args.head c.args.key c.loop-next.previous c.in-Some.node c.key_of.result v c.key_of.ensures c.if-key-key_of.true

pub next_of-next-requires-in-Some : goal.next_of-next-requires-in-Some
next_of-next-requires-in-Some c = behind_placed (place_at c.args.self.now.places) c.args.head c.args.key c.loop-next.previous c.in-Some.node (rw c.in-Some.is at c.loop-next.invariant)

pub loop-next-smaller : goal.loop-next-smaller
loop-next-smaller c =
    behind_nearer (place_at c.args.self.now.places) c.args.head c.args.key c.loop-next.previous c.in-Some.node c.key_of.result (rw c.in-Some.is at c.loop-next.invariant)
    c.key_of.ensures c.if-key-key_of.false c.ranges.key.fits

pub loop-next-preserved : goal.loop-next-preserved
loop-next-preserved c =
    behind_on (place_at c.args.self.now.places) c.args.head c.args.key c.loop-next.previous c.in-Some.node c.key_of.result _ c.requires.fresh
    (rw c.in-Some.is at c.loop-next.invariant) c.key_of.ensures c.if-key-key_of.false c.requires.by_key c.next_of-next-in-Some.ensures

pub returns-clause-previous : goal.returns-clause-previous
returns-clause-previous c =
    let place = place_at c.args.self.now.places in
    let v = rw c.in_default.is at c.loop-next.invariant in
    behind_previous place c.args.head c.args.key c.loop-next.previous _ (record { below = λ i k e. c.laws.ensures.keyed i c.args.head k e }) c.ranges.key.fits v
    (behind_last place c.args.head c.args.key c.loop-next.previous v)

pub returns-clause-next : goal.returns-clause-next
returns-clause-next c =
    rw c.in_default.is (behind_last (place_at c.args.self.now.places) c.args.head c.args.key c.loop-next.previous (rw c.in_default.is at c.loop-next.invariant))
