use Rattle.std.proofs.Common.{◌≡◌, ◌≤◌, ◌++◌, not, length, take, drop, sym, ap, ◌∙◌, subst, arith}
use Rattle.std.specs.Prelude.{◌==◌, filter}
use Rattle.std.specs.List.{remove}
use Rattle.known_holdings.proofs.RisingKeys.{remove_next}
use Rattle.known_holdings.proofs.rising.remove.Goals as goal

pub loop-preserved : goal.loop-preserved
loop-preserved g c =
    let xs = c.args.items.now.items in
    let inside = subst (λ ys. c.range_of-begin.result.1 ≤ length ys) c.deref.ensures.value c.range_of-begin.ensures.inside in
    c.remove.ensures.items ∙ (ap (λ ys. remove ys c.range_of-begin.result.0) c.loop.invariant
    ∙ remove_next xs c.range_of-begin.result.0 c.loop.counter (omega (arith, c.loop.auto.counter)) (omega (arith, inside, c.loop-test.true)))

pub returns-clause-value : goal.returns-clause-value
returns-clause-value g c =
    let counter : c.loop.counter ≡ c.range_of-begin.result.1 =
    omega (arith, c.loop.auto.counter-end c.range_of-begin.ensures.order, c.loop-test.false) in
    c.loop.invariant ∙ ap (λ m. take c.range_of-begin.result.0 c.args.items.now.items ++ drop m c.args.items.now.items) counter
    ∙ ap (λ ys. take c.range_of-begin.result.0 ys ++ drop c.range_of-begin.result.1 ys) (sym c.deref.ensures.value)
    ∙ sym c.range_of-begin.ensures.others ∙ ap (filter (λ x. not (g.T.Keyed.key x == c.args.key))) c.deref.ensures.value
