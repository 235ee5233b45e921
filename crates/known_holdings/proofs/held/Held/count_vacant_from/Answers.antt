use Rattle.std.proofs.Common.{sym, ap, ◌∙◌, arith}
use Rattle.promise_core.specs.Holdings.{is_vacant}
use Rattle.known_holdings.proofs.ComputedTests.{more_vacant, more_taken}
use Rattle.known_holdings.proofs.held.Held.count_vacant_from.Goals as goal
use Rattle.known_holdings.proofs.held.Held.count_vacant_from.Goals.{then-is_vacant, else-is_vacant}

pub loop-i-preserved : goal.loop-i-preserved
loop-i-preserved c =
    let h = c.args.self.now in
    let at = ap (is_vacant h) (sym c.numbered.ensures) ∙ sym c.is_vacant.ensures in
    elim c.if-is_vacant.branch [
      | then-is_vacant w ↦ (let e = more_vacant h c.args.k c.args.begin c.loop-i.i (at ∙ w.if-is_vacant.true) in
          record { counted = omega (arith, e, c.loop-i.invariant.counted); most = omega arith })
      | else-is_vacant w ↦ (let e = more_taken h c.args.k c.args.begin c.loop-i.i (at ∙ w.if-is_vacant.false) in
          record { counted = omega (arith, e, c.loop-i.invariant.counted); most = omega arith })
    ]
