use Rattle.std.proofs.Common.{arith, sym, ap, ◌∙◌}
use Rattle.promise_core.specs.Holdings.{Holdings}
use Rattle.known_holdings.proofs.ComputedTests.{next_object}
use Rattle.known_holdings.proofs.held.Held.object_with.Goals as goal

pub returns-in-Some : goal.returns-in-Some
returns-in-Some c =
    let e = next_object c.args.place c.args.len c.loop-c.c-index c.in-Some.first _ c.c-item.result (omega arith) c.c-item.is (sym c.object_with.ensures ∙ c.in-Some.is) in
    let v = ap (λ (h : Holdings). h.caches) c.self.view_is in
    cc (e, v, c.number.ensures, c.deref-c-items.ensures.value, c.loop-c.invariant)
