use Rattle.std.proofs.Common.{arith}
use Rattle.std.proofs.lemmas.Grind.{common_steps}
use Rattle.known_holdings.proofs.ComputedTests.{vacant_sum}
use Rattle.known_holdings.proofs.held.Held.vacant_by_order.Goals as goal

pub returns-clause-counts : goal.returns-clause-counts
returns-clause-counts c = λ k le.
    let e = vacant_sum c.args.order k c.args.self.now in
    let was = c.loop-slot.invariant.counted k le in
    grind (arith, common_steps, e, was)
