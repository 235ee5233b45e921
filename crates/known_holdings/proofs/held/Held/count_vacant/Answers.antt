use Rattle.std.proofs.Common.{arith}
use Rattle.std.proofs.lemmas.Grind.{common_steps}
use Rattle.known_holdings.proofs.ComputedTests.{vacant_sum}
use Rattle.known_holdings.proofs.held.Held.count_vacant.Goals as goal

pub returns : goal.returns
returns c = let e = vacant_sum c.args.order c.args.k c.args.self.now in grind (arith, common_steps, e)
