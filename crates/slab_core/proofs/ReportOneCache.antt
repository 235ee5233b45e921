-- The row that is reported for a cache is the row of the machine's cache.
use Rattle.std.proofs.Common.{◌≡◌, ℕ, ◌+◌, ◌*◌, ◌<◌, Some, length, get_or, sym, ap, ◌∙◌, arith}
use Rattle.std.specs.Prelude.{filter, Option, option_map}
use Rattle.std.proofs.lemmas.List.{length-map}
use Rattle.klist_core.specs.Places.{place_at}
use Rattle.klist_core.specs.Lists.{list_of, keys_of}
use Rattle.klist_core.proofs.KeyNodePairs.{in_list}
use Rattle.model_core.specs.Machine.{Slab, Cache, Machine}
use Rattle.model_core.specs.Slabs.{is_full, is_partial, cache_of, slab_of, live_objects}
use Rattle.model_core.specs.Elements.{IsIn}
use Rattle.model_core.proofs.Lists.{filter_in}
use Rattle.space_core.specs.Content as spaces
use Rattle.buddy_core.specs.Content as buddies
use Rattle.slab_tables.specs.declared.cache.Cache as own
use Rattle.slab_tables.specs.Content.{Content, IsSlabs, kept_at, cache_at, index_of_cache, head_of, live_total}
use Rattle.machine_changes.specs.Records.{count_true}
use Rattle.machine_changes.specs.Shows.{Agree, ShowsMachine}
use Rattle.machine_changes.specs.Steady.{IsSteady}
use Rattle.machine_changes.specs.Laws.{is_kind, ListsHold}
use Rattle.machine_changes.proofs.Lookups.{some_same, found_key, in_found}
use Rattle.machine_changes.proofs.SlabFacts.{shown, slab_shown}
use Rattle.machine_changes.proofs.KindLists.{in_among}
use Rattle.model_core.specs.declared.report.CacheRow.{CacheRow}
use Rattle.model_core.specs.Reports.{row_of_cache}
use Rattle.slab_core.proofs.SlabFacts.{held}
use Rattle.slab_core.proofs.LiveObjectTotals.{sum_of, sum_live, total_of_lists, sum_of_slabs, sum_by_kind, objects_counted}
use Rattle.slab_core.proofs.SlabForTake.{slab_in_list}

same_row : {n f p e l n' f' p' e' l' : ℕ} → n ≡ n' → f ≡ f' → p ≡ p' → e ≡ e' → l ≡ l'
    → ◌≡◌ {A = CacheRow} (record { cache = n; full = f; partial = p; empty = e; live = l }) (record { cache = n'; full = f'; partial = p'; empty = e'; live = l' })
same_row a b c d e = cc

module _ (r : spaces.Content) (b : buddies.Content) (s : Content) (t c : ℕ) (m : Machine) (cache : own.Cache) (x : Cache) (w : IsSlabs s) (hold : ListsHold s)
    (a : Agree r b s) (st : IsSteady r b s t) (h : ShowsMachine r b s t m) (cached : cache_at s t c ≡ Some cache) (ex : cache_of m c ≡ Some x) where
  -- the list of slabs of one kind has as many entries as cache c of the machine has slabs of this kind
  pub kind_counted : (kind : ℕ) → kind < 3 → length (keys_of s.lists.places (head_of t c kind)) ≡ length (filter (is_kind kind) x.slabs)
  kind_counted kind less = ap length (hold r b t c kind m x a st h ex less) ∙ length-map (filter (is_kind kind) x.slabs) (λ y. y.first)

  same_count : (kind : ℕ) → kind < 3 → (q : ℕ × ℕ) (y : Slab) → IsIn q (list_of s.lists.places (head_of t c kind)) → IsIn y (filter (is_kind kind) x.slabs) → q.0 ≡ y.first
      → (kept_at s.kept q.1).live ≡ count_true y.live
  same_count kind less q y i j e =
      let place : place_at s.lists.places q.1 ≡ Some (head_of t c kind, q.0) = in_list s.lists.places (head_of t c kind) q.0 q.1 (in_among q (list_of s.lists.places (head_of t c kind)) i) in
      let slab = slab_in_list t c a cached kind q.0 q.1 less place in
      let found : slab_of x y.first ≡ Some y = in_found (λ z. z.first) 0 y x.slabs (h.slabs_rise c x ex) (filter_in (is_kind kind) y x.slabs j).0 in
      let there : slab_of x q.0 ≡ Some (shown r s t c cache cached q.0 q.1) = h.slabs c q.0 x cache ex cached ∙ slab_shown r s t c cache cached q.0 q.1 slab in
      let same : y ≡ shown r s t c cache cached q.0 q.1 = some_same (sym found ∙ (ap (slab_of x) (sym e) ∙ there)) in
      (held r b s t c q.0 q.1 cache w a slab).counted ∙ ap (λ (z : Slab). count_true z.live) (sym same)

  kind_total : (kind : ℕ) → kind < 3 → sum_of (λ n. (kept_at s.kept n).live) (list_of s.lists.places (head_of t c kind)) ≡ sum_live (filter (is_kind kind) x.slabs)
  kind_total kind less =
      sum_of_slabs (λ n. (kept_at s.kept n).live) (list_of s.lists.places (head_of t c kind)) (filter (is_kind kind) x.slabs) (hold r b t c kind m x a st h ex less) (same_count kind less)

  pub live_counted : index_of_cache t c < length s.caches → get_or s.live (index_of_cache t c) 0 ≡ length (live_objects x)
  live_counted below =
      let live : ℕ → ℕ = λ n. (kept_at s.kept n).live in
      let n : ℕ = index_of_cache t c in
      let total : live_total n s.lists.places s.kept
      ≡ sum_of live (list_of s.lists.places (3 * n)) + (sum_of live (list_of s.lists.places (3 * n + 1)) + sum_of live (list_of s.lists.places (3 * n + 2))) =
      total_of_lists live n 0 s.lists.places s.kept (omega (arith, w.paired)) (λ j. ap live (omega arith)) in
      let first : sum_of live (list_of s.lists.places (3 * n)) ≡ sum_of live (list_of s.lists.places (head_of t c 0)) =
      ap (λ g. sum_of live (list_of s.lists.places g)) (omega arith) in
      let full = kind_total 0 (omega arith) in
      let partial = kind_total 1 (omega arith) in
      let empty = kind_total 2 (omega arith) in
      let kinds = sum_by_kind x.slabs in
      w.counted n below ∙ (total ∙ (ap (λ k. k + (sum_of live (list_of s.lists.places (3 * n + 1)) + sum_of live (list_of s.lists.places (3 * n + 2)))) (first ∙ full)
      ∙ (ap (λ k. sum_live (filter is_full x.slabs) + (k + sum_of live (list_of s.lists.places (3 * n + 2)))) partial
      ∙ (ap (λ k. sum_live (filter is_full x.slabs) + (sum_live (filter is_partial x.slabs) + k)) empty ∙ (kinds ∙ sym (objects_counted x x.slabs))))))

  -- a row with the lengths of the three lists and the cache's number of live objects is the row of cache c of the machine
  pub row_is : index_of_cache t c < length s.caches → (full partial empty live : ℕ) → full ≡ length (keys_of s.lists.places (head_of t c 0))
      → partial ≡ length (keys_of s.lists.places (head_of t c 1)) → empty ≡ length (keys_of s.lists.places (head_of t c 2))
      → live ≡ get_or s.live (index_of_cache t c) 0
      → ◌≡◌ {A = Option CacheRow} (Some (record { cache = c; full = full; partial = partial; empty = empty; live = live })) (option_map row_of_cache (cache_of m c))
  row_is below full partial empty live ef ep ee el =
      ap (λ (z : CacheRow). Some z)
      (same_row (sym (found_key (λ z. z.number) c m.caches x ex)) (ef ∙ kind_counted 0 (omega arith)) (ep ∙ kind_counted 1 (omega arith)) (ee ∙ kind_counted 2 (omega arith))
      (el ∙ live_counted below))
      ∙ sym (ap (option_map row_of_cache) ex)
