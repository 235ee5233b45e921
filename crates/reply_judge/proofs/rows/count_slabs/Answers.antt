use Rattle.std.proofs.Common.{◌≡◌, ℕ, ◌<◌, ◌==◌, ◌&&◌, not, List, length, get_or, slice_index, ap, ◌∙◌, subst, arith}
use Rattle.promise_core.specs.Holdings.{live_beside, is_slab_full}
use Rattle.reply_judge.proofs.Lists.{one_more, count_within}
use Rattle.reply_judge.proofs.rows.count_slabs.Goals as goal

pub overflow_add-full : goal.overflow_add-full
overflow_add-full c =
    let cache = c.args.cache.now in
    let within = count_within (λ p. slice_index (live_beside cache p) 0 == p && is_slab_full cache p) cache.live c.loop-place.place-index c.loop-place.full
    c.from-full.result c.begins_at.result c.loop-place.invariant.full c.from-full.ensures in
    omega (arith, within, c.loop-place.auto.place-index-end, c.loop-place-test.true)

pub overflow_add-partial : goal.overflow_add-partial
overflow_add-partial c =
    let cache = c.args.cache.now in
    let within = count_within (λ p. slice_index (live_beside cache p) 0 == p && not (is_slab_full cache p)) cache.live c.loop-place.place-index c.loop-place.partial
    c.from-partial.result c.begins_at-in-loop-place.result c.loop-place.invariant.partial c.from-partial.ensures in
    omega (arith, within, c.loop-place.auto.place-index-end, c.loop-place-test.true)

pub loop-place-preserved : goal.loop-place-preserved
loop-place-preserved c =
    let cache = c.args.cache.now in
    let i = c.loop-place.place-index in
    let place : ℕ = get_or cache.live i 0 in
    let items : c.live-place-items.result.now ≡ cache.live = c.live-place-items.ensures in
    let there = subst (λ (xs : List ℕ). i < length xs) items c.loop-place-test.true in
    let here : get_or c.live-place-items.result.now i 0 ≡ place = ap (λ (xs : List ℕ). get_or xs i 0) items in
    let beside : c.beside_next-beside.result.now ≡ live_beside cache place = c.beside_next-beside.ensures ∙ ap (live_beside cache) here in
    let full = c.begins_at.ensures ∙ (λ j. slice_index (beside j) 0 == here j && (length (beside j) == c.count.ensures j)) in
    let partial = c.begins_at-in-loop-place.ensures ∙ (λ j. slice_index (beside j) 0 == here j && not (length (beside j) == c.count.ensures j)) in
    record {
      known = (place, beside);
      full = one_more (λ p. slice_index (live_beside cache p) 0 == p && is_slab_full cache p) cache.live i c.loop-place.full c.from-full.result
          c.begins_at.result there c.loop-place.invariant.full full c.from-full.ensures;
      partial = one_more (λ p. slice_index (live_beside cache p) 0 == p && not (is_slab_full cache p)) cache.live i c.loop-place.partial
          c.from-partial.result c.begins_at-in-loop-place.result there c.loop-place.invariant.partial partial c.from-partial.ensures;
    }
