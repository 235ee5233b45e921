use Rattle.std.proofs.Common.{◌≡◌, ℕ, ◌<◌, Some, length, get_or, sym, ap, ◌∙◌, subst, arith}
use Rattle.klist_core.specs.Places.{ArePlaces}
use Rattle.klist_core.specs.Lists.{keys_of}
use Rattle.slab_tables.specs.Content.{Content, IsSlabs, cache_at, index_of_cache, head_of}
use Rattle.machine_changes.proofs.SlabFacts.{cache_shown}
use Rattle.machine_changes.proofs.KindLists.{kinds_hold}
use Rattle.slab_core.proofs.ReportOneCache.{row_is}
use Rattle.slab_core.proofs.Slabs.row.Goals as goal

pub returns : goal.returns
returns c = λ r b m a st h.
    let s = c.args.self.now in
    let t = c.args.t in
    let n = c.args.c in
    let cached : cache_at s t n ≡ Some c.in_ok-_cache._cache.now =
    sym (ap (λ (z : Content). cache_at z t n) c.self.view_is) ∙ (ap (cache_at c.self.inside.tables t) (sym c.into.ensures) ∙ sym c.in_ok-_cache.ensures) in
    let tables : IsSlabs s = subst IsSlabs c.self.view_is c.laws.ensures.slabs in
    let table : ArePlaces s.lists = subst (λ (z : Content). ArePlaces z.lists) c.self.view_is c.laws.ensures.table in
    let there = cache_shown r b s t m h n c.in_ok-_cache._cache.now cached in
    let below : index_of_cache t n < length s.caches = omega (arith, c.requires.tenant, c.requires.cache) in
    let counted = λ (kind : ℕ). ap (λ (z : Content). length (keys_of z.lists.places (head_of t n kind))) c.self.view_is in
    row_is r b s t n m c.in_ok-_cache._cache.now there.shown tables (kinds_hold s tables table) a st h cached there.cached below
    c.count.result c.count-2.result c.count-3.result c.live.result
    (c.count.ensures ∙ (ap (λ (k : ℕ). length (keys_of c.self.inside.tables.lists.places (head_of t k 0))) c.into-2.ensures ∙ counted 0))
    (c.count-2.ensures ∙ (ap (λ (k : ℕ). length (keys_of c.self.inside.tables.lists.places (head_of t k 1))) c.into-3.ensures ∙ counted 1))
    (c.count-3.ensures ∙ (ap (λ (k : ℕ). length (keys_of c.self.inside.tables.lists.places (head_of t k 2))) c.into-4.ensures ∙ counted 2))
    (c.live.ensures ∙ (ap (λ (k : ℕ). get_or c.self.inside.tables.live (index_of_cache t k) 0) c.into-5.ensures ∙ ap (λ (z : Content). get_or z.live (index_of_cache t n) 0) c.self.view_is))
