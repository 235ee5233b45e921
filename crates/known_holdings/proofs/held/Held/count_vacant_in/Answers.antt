use Rattle.std.proofs.Common.{◌≡◌, ◌-◌, ◌*◌, ◌%◌, ◌^◌, ◌≤◌, not, length, filter, take, sym, ap, ◌∙◌, arith}
use Rattle.std.proofs.lemmas.Nat.{one_shl}
use Rattle.std.proofs.Math.Pow.{pow_mono}
use Rattle.model_core.specs.declared.limits.TheConstants.{MAX_ORDER}
use Rattle.model_core.specs.Blocks.{Block, block}
use Rattle.promise_core.specs.Holdings.{is_vacant}
use Rattle.known_holdings.proofs.ComputedTests.{vacant_from}
use Rattle.known_holdings.proofs.VacantBlockMarks.{clear_are}
use Rattle.known_holdings.proofs.held.Held.count_vacant_in.Goals as goal

pub returns-clause-value : goal.returns-clause-value
returns-clause-value c =
    let h = c.args.self.now in
    let order = c.args.order in
    let slot = c.args.slot in
    let frames : c.args.k ≡ 0 = omega (arith, c.if-k-gt0.false) in
    let whole : 2 ^ order ≡ 2 ^ (order - c.args.k) = ap (λ n. 2 ^ n) (omega (arith, frames)) in
    let blocks : 1 * 2 ^ order % 18446744073709551616 ≡ 2 ^ order = one_shl order 64 (omega (arith, c.requires.order)) in
    let least : order ≤ MAX_ORDER = c.requires.order in
    let small : 2 ^ order ≤ 2 ^ 8 = pow_mono least in
    let first : c.of_slot.result.first ≡ slot * 2 ^ order = ap (λ (b : Block). b.first) c.of_slot.ensures in
    c.count_clear.ensures.value ∙ ap (λ n. length (filter not (take n c.taken_in-taken.result))) blocks
    ∙ clear_are h 0 (slot * 2 ^ order) (2 ^ order) c.taken_in-taken.result (omega (arith, c.taken_in-taken.ensures.long, small))
    (λ f less. c.taken_in-taken.ensures.taken f (omega (arith, less, ap (λ (b : Block). 2 ^ b.order) c.of_slot.ensures))
    ∙ ap (λ n. not (is_vacant h (block n 0))) (omega (arith, first)))
    ∙ (λ i. vacant_from h (sym frames i) (slot * whole i) (whole i))
