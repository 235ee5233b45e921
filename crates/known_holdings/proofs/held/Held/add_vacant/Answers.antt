use Rattle.std.proofs.Common.{◌≡◌, ◌*◌, ◌%◌, ◌^◌, ◌≤◌, ◌-◌, not, length, filter, take, ap, ◌∙◌, arith}
use Rattle.std.proofs.lemmas.Grind.{common_steps}
use Rattle.std.proofs.lemmas.Nat.{one_shl}
use Rattle.std.proofs.Math.Pow.{pow_mono}
use Rattle.model_core.specs.declared.limits.TheConstants.{MAX_ORDER}
use Rattle.promise_core.specs.Holdings.{is_vacant, blocks_of_slot}
use Rattle.known_holdings.proofs.VacantBlockMarks.{pairs_of, joined, clear_are}
use Rattle.known_holdings.proofs.held.Held.add_vacant.Goals as goal

pub loop-k-preserved : goal.loop-k-preserved
loop-k-preserved c =
    let h = c.args.self.now in
    let order = c.args.order in
    let k = c.loop-k.k in
    let slot = c.args.slot in
    let inside : k ≤ order = omega (arith, c.loop-k-test.true) in
    let blocks : 1 * 2 ^ (order - k) % 18446744073709551616 ≡ 2 ^ (order - k) = one_shl (order - k) 64 (omega (arith, c.requires.order)) in
    let least : order - k ≤ MAX_ORDER = omega (arith, c.requires.order) in
    let small : 2 ^ (order - k) ≤ 2 ^ 8 = pow_mono least in
    let marks = c.loop-k.invariant.marks inside in
    let counted : c.count_clear.result ≡ length (filter (is_vacant h) (blocks_of_slot order k slot)) =
    c.count_clear.ensures.value ∙ ap (λ n. length (filter not (take n c.loop-k.taken))) blocks
    ∙ clear_are h k (slot * 2 ^ (order - k)) (2 ^ (order - k)) c.loop-k.taken (omega (arith, c.loop-k.invariant.marks_long, small)) marks in
    record {
      long = grind (arith, common_steps, c.loop-k.invariant.long);
      marks_long = grind (arith, common_steps);
      marks = λ goes_on. joined h order k slot c.loop-k.taken c.join_pairs.new.taken (omega (arith, goes_on)) marks
          (λ i in_slot. c.join_pairs.ensures i (omega (arith, in_slot, blocks, pairs_of order k (omega (arith, goes_on)))));
      added = λ j less. grind (arith, common_steps, counted);
      most = λ j. grind (arith, common_steps, counted);
      kept = λ j later. grind (arith, common_steps);
    }
