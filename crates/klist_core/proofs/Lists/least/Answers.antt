use Rattle.std.proofs.Common.{ℕ, Some, refl, sym, ap, ◌∙◌, arith}
use Rattle.std.proofs.lemmas.Bool.{eq-eqb, false≢true}
use Rattle.klist_core.specs.Places.{place_at, is_in}
use Rattle.klist_core.proofs.WalkToKey.{in_placed}
use Rattle.klist_core.proofs.PlacesChanged.{placed_within}
use Rattle.klist_core.proofs.LeastKeySearch.{until_none, until_here, until_kept, until_all}
use Rattle.klist_core.proofs.Lists.least.Goals as goal

pub loop-node-init : goal.loop-node-init
loop-node-init c = until_none (place_at c.args.self.now.places) c.args.head

pub loop-node-preserved : goal.loop-node-preserved
loop-node-preserved c =
    let place = place_at c.args.self.now.places in
    let head = c.args.head in
    let node = c.loop-node.node in
    elim c.if-is_in.branch [
      | goal.then-is_in+then-from-bound w ↦
          let here = in_placed head (place node) (sym c.is_in.ensures ∙ w.if-is_in.true) in
          let read = rw here.1 at w.key_of-then-from-bound.ensures in
          let tried = rw here.1 at w.key_of.ensures in
          rw (w.least-is, w.bound-is) (until_here place head node c.loop-node.bound _ c.loop-node.least c.loop-node.invariant
          (here.1 ∙ ap (λ (k : ℕ). Some (head, k)) (omega (arith, read, w.into-bound.ensures))) (omega (arith, w.if-from-bound.true, w.from.ensures, tried, read, w.into-bound.ensures)))
      | goal.else-is_in w ↦ rw (w.least-is, w.bound-is) (until_kept place head node c.loop-node.bound c.loop-node.least c.loop-node.invariant
          (elim w.else-is_in.branch [
            | goal.else-is_in-via-then-is_in+else-from-bound x ↦ λ k e. let tried = rw e at x.key_of.ensures in omega (arith, x.if-from-bound.false, x.from.ensures, tried)
            | goal.else-is_in-via-else-is_in x ↦ λ k e. absurd (false≢true (sym x.if-is_in.false ∙ (c.is_in.ensures ∙ (ap (is_in head) e ∙ eq-eqb head head refl))))
          ]))
    ]

pub returns : goal.returns
returns c =
    let places = c.args.self.now.places in
    until_all (place_at places) c.args.head c.loop-node.node c.loop-node.bound c.loop-node.least c.loop-node.invariant
    (λ i k e. (omega (arith, placed_within places i (c.args.head, k) e, c.nodes-node-end.ensures, c.loop-node-test.false), c.laws.ensures.keyed i c.args.head k e))
