use Rattle.std.proofs.Common.{sym, subst, set, arith}
use Rattle.std.proofs.lemmas.List.{get_or_read}
use Rattle.slab_tables.specs.declared.cache.Kept.{Kept}
use Rattle.slab_tables.specs.Content.{IsSlabs, blank}
use Rattle.slab_tables.proofs.TableReads.{shown}
use Rattle.slab_tables.proofs.InvariantKept.{slabs_outside}
use Rattle.slab_tables.proofs.tables.Tables.set_outside.Goals as goal

pub invariant_of-self : goal.invariant_of-self
invariant_of-self c =
    let a = c.self.inside in
    let lt = rw (← c.self.view_is) at c.requires in
    let read = get_or_read a.kept.items c.args.machine_frame c.index_mut.result.now (omega (arith, c.self.invariant.slabs.paired, lt)) c.index_mut.ensures.value blank in
    record {
      slabs = subst (λ (k : Kept). IsSlabs (record { top = a.order; lists = a.lists; kept = set a.kept.items c.args.machine_frame (record k { outside = c.args.outside }); caches = a.caches.items; live = a.live.items })) (sym read)
          (slabs_outside (shown c.self.inside) c.args.machine_frame c.args.outside c.self.invariant.slabs lt);
      ends = c.self.invariant.ends;
    }
