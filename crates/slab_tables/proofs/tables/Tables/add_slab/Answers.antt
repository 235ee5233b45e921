use Rattle.std.proofs.Common.{◌+◌, ◌<◌, Some, arith, rules}
use Rattle.slab_tables.specs.Content.{index_of_cache}
use Rattle.slab_tables.specs.Changes.{made_more}
use Rattle.slab_tables.proofs.TableReads.{shown, cached, cache_within}
use Rattle.slab_tables.proofs.CacheNumberBound.{below_cache, below_standing}
use Rattle.slab_tables.proofs.InvariantKept.{slabs_slab}
use Rattle.slab_tables.proofs.tables.Tables.add_slab.Goals as goal

pub nonzero_rem-made : goal.nonzero_rem-made
nonzero_rem-made c =
    let here = cached (shown c.self.inside) c.args.t c.args.c c.args.cache.now (rw (← c.self.view_is) at c.requires.cache) in
    let fit = c.self.invariant.slabs.fits (index_of_cache c.args.t c.args.c) c.args.cache.now here.cached in
    omega (arith, fit.layout.colours, c.colours-colours.ensures)

pub overflow_add-made : goal.overflow_add-made
overflow_add-made c =
    let here = cached (shown c.self.inside) c.args.t c.args.c c.args.cache.now (rw (← c.self.view_is) at c.requires.cache) in
    let fit = c.self.invariant.slabs.fits (index_of_cache c.args.t c.args.c) c.args.cache.now here.cached in
    let fits : c.args.cache.now.made + 1 < 4294967296 = omega (arith, fit.made, c.colours-colours.ensures, c.colours-colours.type_inv) in
    search (rules, fits)

pub invariant_of-self : goal.invariant_of-self
invariant_of-self c =
    let e = rw (← c.self.view_is) at c.requires.cache in
    let below = (cached (shown c.self.inside) c.args.t c.args.c c.args.cache.now e).below in
    let lt = cache_within (shown c.self.inside) c.args.t c.args.c (rw (← c.self.view_is) at c.requires.tenant) below in
    rw (c.insert.ensures, c.of.ensures, c.next_slab.ensures, c.index_of.ensures, c.colours-colours.ensures)
    (record {
      slabs = slabs_slab (shown c.self.inside) c.args.t c.args.c c.args.cache.now c.args.first c.args.machine_frame c.self.invariant.slabs e lt
          (rw (← c.self.view_is) at c.requires.machine_frame) (rw (← c.self.view_is) at c.requires.free);
      ends = below_cache c.self.inside.caches.items c.self.inside.below.items (index_of_cache c.args.t c.args.c) (Some (made_more c.args.cache.now)) lt
          (below_standing c.self.inside.caches.items c.self.inside.below.items (index_of_cache c.args.t c.args.c) c.args.cache.now
          (cached (shown c.self.inside) c.args.t c.args.c c.args.cache.now e).cached c.self.invariant.ends (Some (made_more c.args.cache.now))) c.self.invariant.ends;
    })
