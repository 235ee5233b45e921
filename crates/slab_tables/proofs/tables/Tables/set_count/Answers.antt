use Rattle.std.proofs.Common.{◌≡◌, ◌<◌, ℕ, Some, sym, ap, ◌∙◌, arith, rules}
use Rattle.slab_tables.specs.Content.{layout_numbers, head_of, kind_of, kept_at}
use Rattle.slab_tables.proofs.TableReads.{shown, cached, cache_within, kind_below, placed_by_kind}
use Rattle.slab_tables.proofs.InvariantKept.{counting, kept_read, slabs_count}
use Rattle.slab_tables.proofs.tables.Tables.set_count.Goals as goal
use Rattle.slab_tables.proofs.tables.Tables.set_count.Goals.{After-order-slab}

-- the list that the code computes from the new count is the list of the slab's kind after the change
listed_as : (c : After-order-slab) → head_of c.args.t c.args.c (kind_of c.count-total.result c.args.count)
    ≡ head_of c.args.t c.args.c (kind_of (layout_numbers c.args.cache.now).count c.args.count)
listed_as c = ap (λ n. head_of c.args.t c.args.c (kind_of n c.args.count)) c.count-total.ensures

-- the state that the code reads is the stored state of the slab
read_as : (c : After-order-slab) → c.index.result.now ≡ kept_at c.self.inside.kept.items c.args.machine_frame
read_as c =
    kept_read (shown c.self.inside) c.args.t c.args.c c.args.first c.args.machine_frame c.index.result.now c.self.invariant.slabs
    (rw (← c.self.view_is) at c.requires.slab) c.index.ensures

-- the list that the code computes from the old count is the list of the slab's kind before the change
listed_from : (c : After-order-slab) → head_of c.args.t c.args.c (kind_of c.count-total.result c.from-before.result)
    ≡ head_of c.args.t c.args.c (kind_of (layout_numbers c.args.cache.now).count (kept_at c.self.inside.kept.items c.args.machine_frame).live)
listed_from c =
    ap (head_of c.args.t c.args.c) (ap (λ n. kind_of n c.from-before.result) c.count-total.ensures
    ∙ ap (kind_of (layout_numbers c.args.cache.now).count) (c.from-before.ensures ∙ ap (λ k. k.live) (read_as c)))

pub relist-requires-clause-placed : goal.relist-requires-clause-placed
relist-requires-clause-placed c =
    let place = goal.at.relist-requires-clause-placed c in
    placed_by_kind (shown c.self.inside) c.self.invariant.slabs c.args.t c.args.c c.args.first c.args.machine_frame c.args.cache.now
    (rw (← c.self.view_is) at c.requires.cache) (rw (← c.self.view_is) at c.requires.slab)
    ∙ ap (λ (x : ℕ). Some (x, c.args.first)) (sym (listed_from place.After-order-slab))

pub relist-requires-clause-alone : goal.relist-requires-clause-alone
relist-requires-clause-alone c = λ i e.
    let alone = rw (← c.self.view_is) at c.requires.alone in
    let n = (layout_numbers c.args.cache.now).count in
    let at = e ∙ ap (λ (x : ℕ). Some (x, c.args.first)) (listed_as (goal.at.relist-requires-clause-alone c).After-order-slab) in
    alone i (record { kind = kind_of n c.args.count; few = kind_below n c.args.count; placed = at })

pub overflow_add-index : goal.overflow_add-index
overflow_add-index c =
    let k = counting (shown c.self.inside) c.args.t c.args.c c.args.cache.now c.args.first c.args.machine_frame c.args.count c.index-2.result.now c.index.result.now c.self.invariant.slabs
    (rw (← c.self.view_is) at c.requires.tenant) (rw (← c.self.view_is) at c.requires.cache) (rw (← c.self.view_is) at c.requires.slab) c.requires.few
    (rw c.index_of-i.ensures at c.index-2.ensures) c.index.ensures in
    let fits = k.fits in
    search (rules, fits)

pub overflow_sub-index : goal.overflow_sub-index
overflow_sub-index c =
    let k = counting (shown c.self.inside) c.args.t c.args.c c.args.cache.now c.args.first c.args.machine_frame c.args.count c.index-2.result.now c.index.result.now c.self.invariant.slabs
    (rw (← c.self.view_is) at c.requires.tenant) (rw (← c.self.view_is) at c.requires.cache) (rw (← c.self.view_is) at c.requires.slab) c.requires.few
    (rw c.index_of-i.ensures at c.index-2.ensures) c.index.ensures in
    omega (arith, k.enough, c.from-before.ensures)

pub invariant_of-self : goal.invariant_of-self
invariant_of-self c =
    let e = rw (← c.self.view_is) at c.requires.cache in
    let tenant = rw (← c.self.view_is) at c.requires.tenant in
    let slab = rw (← c.self.view_is) at c.requires.slab in
    let place = goal.at.invariant_of-self c in
    let k = counting (shown c.self.inside) c.args.t c.args.c c.args.cache.now c.args.first c.args.machine_frame c.args.count c.index-2.result.now c.index_mut-kept.result.now c.self.invariant.slabs
    tenant e slab c.requires.few (rw c.index_of-i.ensures at c.index-2.ensures) c.index_mut-kept.ensures.value in
    let below = cache_within (shown c.self.inside) c.args.t c.args.c tenant (cached (shown c.self.inside) c.args.t c.args.c c.args.cache.now e).below in
    rw (c.relist.ensures, listed_as place.After-order-slab, c.from-before.ensures, read_as place.After-order-slab, k.kept_is, k.total_is, c.index_of-i.ensures)
    (record {
      slabs = slabs_count (shown c.self.inside) c.args.t c.args.c c.args.cache.now c.args.first c.args.machine_frame c.args.count c.self.invariant.slabs e below slab c.requires.few;
      ends = c.self.invariant.ends;
    })

pub overflow_cast-kept : goal.overflow_cast-kept
overflow_cast-kept c =
    let few = (c.laws.ensures.fits.fits 0).few in
    let fits : c.args.count < 65536 = omega (arith, few, c.requires.few) in
    search (rules, fits)
