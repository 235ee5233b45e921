use Rattle.std.proofs.Common.{◌≡◌, ◌+◌, ◌<◌, Some, length, get_or, arith}
use Rattle.std.proofs.lemmas.List.{get_or_read}
use Rattle.slab_tables.specs.Content.{IsSlabs}
use Rattle.slab_tables.specs.Changes.{IsLeastNumber, with_cache, new_cache}
use Rattle.slab_tables.proofs.TableReads.{shown, cache_within}
use Rattle.slab_tables.proofs.CacheNumberBound.{below_used, below_more}
use Rattle.slab_tables.proofs.InvariantKept.{slabs_more}
use Rattle.slab_tables.proofs.tables.Tables.create.Goals as goal
use Rattle.slab_tables.proofs.tables.Tables.create.Goals.{In_ok-c, After-index-below}

free : (c : In_ok-c) → IsLeastNumber (shown c.self.inside) c.args.t c.in_ok-c.c
free c = rw (c.in_ok-c.was, ← c.self.view_is) at c.free_number.ensures

slabs : (c : In_ok-c) → IsSlabs (with_cache (shown c.self.inside) c.args.t c.in_ok-c.c (Some (new_cache c.args.layout c.args.pattern)))
slabs c =
    slabs_more (shown c.self.inside) c.args.t c.in_ok-c.c (new_cache c.args.layout c.args.pattern) c.self.invariant.slabs (free c).below
    (cache_within (shown c.self.inside) c.args.t c.in_ok-c.c (rw (← c.self.view_is) at c.requires) (free c).below) (free c).vacant
    (record { size = c.laws.ensures.size; align = c.laws.ensures.align; layout = c.laws.ensures.fits; pattern = c.as_slice-bytes.ensures.pattern; made = c.laws.ensures.fits.colours })

-- the number that the code reads from `below` is the tenant's entry before the call
was : (c : After-index-below) → (c.args.t < length c.self.inside.below.items) × (c.index-below.result.now ≡ get_or c.self.inside.below.items c.args.t 0)
was c =
    let tenant : c.args.t < length c.self.inside.below.items = omega (arith, c.self.invariant.ends.tenants, rw (← c.self.view_is) at c.requires) in
    (tenant, get_or_read c.self.inside.below.items c.args.t c.index-below.result.now tenant (rw c.from.ensures at c.index-below.ensures) 0)

pub invariant_of-self : goal.invariant_of-self
invariant_of-self c =
    let g = goal.at.invariant_of-self c in
    let w = was g.After-index-below in
    let number = (free g.In_ok-c).below in
    rw (c.index_of.ensures, c.into.ensures, c.from-then-below-c.ensures)
    (record {
      slabs = slabs g.In_ok-c;
      ends = below_more c.self.inside.caches.items c.self.inside.below.items c.args.t c.in_ok-c.c (c.in_ok-c.c + 1) (Some (new_cache c.args.layout c.args.pattern)) w.0
          (omega arith) (omega (arith, w.1, c.if-below-c.true)) (omega (arith, number)) c.self.invariant.ends;
    })

pub invariant_of-self-else-below-c : goal.invariant_of-self-else-below-c
invariant_of-self-else-below-c c =
    let g = goal.at.invariant_of-self-else-below-c c in
    let w = was g.After-index-below in
    let number = (free g.In_ok-c).below in
    rw (c.index_of.ensures, c.into.ensures)
    (record {
      slabs = slabs g.In_ok-c;
      ends = below_used c.self.inside.caches.items c.self.inside.below.items c.args.t c.in_ok-c.c (Some (new_cache c.args.layout c.args.pattern)) w.0
          (omega (arith, w.1, c.if-below-c.false)) number c.self.invariant.ends;
    })
