-- The slab that a take uses.
use Rattle.std.proofs.Common.{◌≡◌, ℕ, ◌/◌, ◌<◌, Some, sym, ap, ◌∙◌, inl, inr, arith}
use Rattle.std.specs.Prelude.{if◌then◌else◌, ◌==◌}
use Rattle.std.proofs.lemmas.Bool.{cases_eq, eq-eqb}
use Rattle.klist_core.specs.Places.{place_at, IsEmpty, IsFirst}
use Rattle.model_core.specs.declared.limits.TheConstants.{MAX_CACHES}
use Rattle.space_core.specs.Content as spaces
use Rattle.buddy_core.specs.Content as buddies
use Rattle.slab_tables.specs.declared.cache.Cache as own
use Rattle.slab_tables.specs.Content.{Content, IsSlabs, kept_at, cache_in, cache_at, index_of_cache, head_of, kind_of, layout_numbers}
use Rattle.slab_tables.proofs.TableReads.{head_parts, listed}
use Rattle.machine_changes.specs.Shows.{machine_frame_of, IsSlab, Agree}
use Rattle.machine_changes.specs.Objects.{IsToUse}
use Rattle.machine_changes.proofs.SteadyParts.{in_table, slab_from, tenant_is}

module _ {r : spaces.Content} {b : buddies.Content} {s : Content} (t c : ℕ) {cache : own.Cache} (a : Agree r b s) (cached : cache_at s t c ≡ Some cache) where
  -- each entry in a list of cache c is a slab of cache c
  pub slab_in_list : (kind f n : ℕ) → kind < 3 → place_at s.lists.places n ≡ Some (head_of t c kind, f) → IsSlab r s t c f n cache
  slab_in_list kind f n few place =
      let there = in_table s t c cache cached in
      let index : head_of t c kind / 3 ≡ index_of_cache t c = (head_parts t c kind few).0 in
      let here : cache_in s.caches (head_of t c kind / 3) ≡ Some cache = ap (cache_in s.caches) index ∙ there.cached in
      let tenant : head_of t c kind / 3 / MAX_CACHES ≡ t = tenant_is (head_of t c kind / 3) t c index there.number in
      slab_from r s t c f n (head_of t c kind) cache there.number index here
      (sym (ap (λ u. machine_frame_of s.top r.slots u f) tenant) ∙ (a.slabs n (head_of t c kind) f cache place here).under) place

  pub use_partial : (f n : ℕ) → IsFirst s.lists.places (head_of t c 1) f n → IsToUse r s t c cache (record { first = f; machine_frame = n })
  use_partial f n first = record { slab = slab_in_list 1 f n (omega arith) first.here; first = inl first }

  pub use_empty : (f n : ℕ) → IsEmpty s.lists.places (head_of t c 1) → IsFirst s.lists.places (head_of t c 2) f n → IsToUse r s t c cache (record { first = f; machine_frame = n })
  use_empty f n none first = record { slab = slab_in_list 2 f n (omega arith) first.here; first = inr (none, first) }

  -- each slab in the list of partial or of empty slabs has a free object
  pub free_in_list : IsSlabs s → (kind f n : ℕ) → 0 < kind → kind < 3 → place_at s.lists.places n ≡ Some (head_of t c kind, f)
      → (kept_at s.kept n).live < (layout_numbers cache).count
  free_in_list w kind f n some few place =
      let is = listed s w t c f n cache cached kind few place in
      let few_live = is.few in
      elim (cases_eq (kept_at s.kept n).live (layout_numbers cache).count) [
        | inl full ↦
            let none : kind_of (layout_numbers cache).count (kept_at s.kept n).live ≡ 0 =
            ap (λ b. if b then 0 else (if (kept_at s.kept n).live == 0 then 2 else 1)) (eq-eqb (kept_at s.kept n).live (layout_numbers cache).count full) in
            absurd (omega (arith, is.kind, (head_parts t c kind few).1, none))
        | inr other ↦ omega arith
      ]
