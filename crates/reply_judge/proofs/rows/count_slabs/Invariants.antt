use Rattle.std.proofs.Common.{◌≡◌, ◌==◌, ◌&&◌, ℕ, not, length, filter, take, slice_index}
use Rattle.promise_core.specs.Holdings.{live_beside, is_slab_full}
use Rattle.reply_judge.proofs.rows.count_slabs.Given as goal

abbrev pub invariant-loop-place : goal.invariant-loop-place
invariant-loop-place l = record {
  known : (q : ℕ) × (l.beside ≡ live_beside l.cache q);
  full : l.full ≡ length (filter (λ p. slice_index (live_beside l.cache p) 0 == p && is_slab_full l.cache p) (take l.place-index l.cache.live));
  partial : l.partial ≡ length (filter (λ p. slice_index (live_beside l.cache p) 0 == p && not (is_slab_full l.cache p)) (take l.place-index l.cache.live));
}
