use Rattle.std.proofs.Common.{arith}
use Rattle.klist_core.proofs.Lists.gap.Goals as goal

pub returns-clause-next : goal.returns-clause-next
returns-clause-next c =
    let last = c.in-Some-last_of.ensures.is.1 in
    let same = rw last.here at c.key_of-2.ensures in
    record { is = λ i k e. let least = last.least i k e (omega arith) in omega (arith, least, same, c.if-key_of-key.true, c.ranges.key) }
