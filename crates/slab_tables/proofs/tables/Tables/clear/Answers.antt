use Rattle.std.proofs.Common.{◌≡◌, ◌+◌, ◌*◌, ◌∙◌, None, refl, subst, arith}
use Rattle.slab_tables.specs.Content.{index_of_cache}
use Rattle.slab_tables.specs.Changes.{IsEmptied}
use Rattle.slab_tables.proofs.TableReads.{shown, cache_within}
use Rattle.slab_tables.proofs.CacheNumberBound.{below_cache}
use Rattle.slab_tables.proofs.CachesCleared.{emptied_all, slabs_cleared}
use Rattle.slab_tables.proofs.tables.Tables.clear.Goals as goal

pub invariant_of-self : goal.invariant_of-self
invariant_of-self c =
    let i = index_of_cache c.args.t c.args.c in
    let a = c.clear.new.self in
    let b = c.clear-2.new.self in
    let z = c.clear-3.new.self in
    let first : c.of.result.number ≡ 3 * i = omega (arith, c.of.ensures) in
    let x : IsEmptied c.self.inside.lists a (3 * i) = subst (IsEmptied c.self.inside.lists a) first c.clear.ensures in
    let y : IsEmptied a b (3 * i + 1) = rw c.of-2.ensures at c.clear-2.ensures in
    let w : IsEmptied b z (3 * i + 2) = rw c.of-3.ensures at c.clear-3.ensures in
    let lt = cache_within (shown c.self.inside) c.args.t c.args.c (rw (← c.self.view_is) at c.requires.tenant) c.requires.cache in
    rw c.index_of-i.ensures
    (record {
      slabs = slabs_cleared (shown c.self.inside) i z c.self.invariant.slabs lt (w.heads ∙ (y.heads ∙ x.heads)) (w.machine_frames ∙ (y.machine_frames ∙ x.machine_frames))
          (emptied_all c.self.inside.lists a b z i x y w);
      ends = below_cache c.self.inside.caches.items c.self.inside.below.items i None lt (λ le. refl) c.self.invariant.ends;
    })
