use Rattle.std.proofs.Common.{ℕ, ◌≡◌, ◌≤◌, ◌<◌, None}
use Rattle.model_core.specs.declared.limits.TheConstants.{MAX_CACHES}
use Rattle.slab_tables.specs.Content.{cache_in, index_of_cache}
use Rattle.slab_tables.proofs.tables.Tables.lower.Given as goal

abbrev pub invariant-loop-below : goal.invariant-loop-below
invariant-loop-below l = record {
  few : l.below ≤ MAX_CACHES;
  none : (c : ℕ) → l.below ≤ c → c < MAX_CACHES → cache_in l.self-inside.caches.items (index_of_cache l.t c) ≡ None;
}

abbrev pub decreases-loop-below : goal.decreases-loop-below
decreases-loop-below l = l.below
