use Rattle.std.proofs.Common.{ltb, ap, ◌∙◌, arith}
use Rattle.std.proofs.lemmas.Bool.{le-ltb}
use Rattle.known_holdings.proofs.RisingKeys.{prefix_near}
use Rattle.known_holdings.proofs.rising.count_below_near.Goals as goal

pub returns-in-Some-clause-value : goal.returns-in-Some-clause-value
returns-in-Some-clause-value g c =
    let next = ap g.T.Keyed.key c.in-Some.ensures.lookup.1 in
    c.count_below.ensures.value
    ∙ prefix_near (λ x. ltb (g.T.Keyed.key x) c.args.bound) c.args.near c.args.items.now c.in-Some.next.now (omega (arith, c.in-Some.ensures.lookup.3.0))
    (le-ltb _ _ (omega (arith, next, c.if-from-bound.true, c.from.ensures, c.key.ensures)))
