use Rattle.std.proofs.Common.{None, refl}
use Rattle.slab_tables.specs.Content.{index_of_cache}
use Rattle.slab_tables.proofs.TableReads.{shown, cache_within, some_below}
use Rattle.slab_tables.proofs.CacheNumberBound.{below_cache}
use Rattle.slab_tables.proofs.InvariantKept.{slabs_less}
use Rattle.slab_tables.proofs.tables.Tables.remove_cache.Goals as goal

pub invariant_of-self : goal.invariant_of-self
invariant_of-self c =
    let below = some_below (shown c.self.inside) c.args.t c.args.c (rw (← c.self.view_is) at c.requires.cache) in
    let lt = cache_within (shown c.self.inside) c.args.t c.args.c (rw (← c.self.view_is) at c.requires.tenant) below in
    rw c.index_of.ensures
    (record {
      slabs = slabs_less (shown c.self.inside) c.args.t c.args.c c.self.invariant.slabs lt (rw (← c.self.view_is) at c.requires.without_slabs);
      ends = below_cache c.self.inside.caches.items c.self.inside.below.items (index_of_cache c.args.t c.args.c) None lt (λ le. refl) c.self.invariant.ends;
    })
