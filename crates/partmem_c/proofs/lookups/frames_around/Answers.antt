use Rattle.std.proofs.Common.{◌<◌, length, ap, arith}
use Rattle.partmem_c.proofs.lookups.frames_around.Goals as goal

pub returns-in-Some-clause-order : goal.returns-in-Some-clause-order
returns-in-Some-clause-order c =
    let laws = c.laws.ensures in
    let same = ap (λ b. length b.tenants) c.buddy-buddy.ensures in
    let here : c.args.t < length c.buddy-buddy.result.now.tenants = omega (arith, c.requires, same, c.parts_agree.ensures.holdings) in
    let placed = (laws.sound c.args.t here).placed c.in-Some.first c.in-Some.order c.in-Some.ensures.0 in
    let parts = c.parts_agree.ensures in
    omega (arith, c.from.ensures, placed.0.0, parts.order, parts.top, ap (λ b. b.top) c.buddy-buddy.ensures)
