use Rattle.std.proofs.Common.{arith}
use Rattle.std.proofs.lemmas.List.{get_or_read}
use Rattle.slab_tables.specs.Content.{blank}
use Rattle.slab_tables.proofs.TableReads.{shown}
use Rattle.slab_tables.proofs.SlabsMoved.{slabs_moved}
use Rattle.slab_tables.proofs.tables.Tables.move_slab.Goals as goal

pub invariant_of-self : goal.invariant_of-self
invariant_of-self c =
    let a = c.self.inside in
    let from = rw (← c.self.view_is) at c.requires.from in
    let read = get_or_read a.kept.items c.args.from c.index.result.now (omega (arith, c.self.invariant.slabs.paired, from)) c.index.ensures blank in
    rw (c.replace.ensures, read)
    (record {
      slabs = slabs_moved (shown a) c.args.from c.args.to c.self.invariant.slabs.paired from (rw (← c.self.view_is) at c.requires.to) c.requires.apart (rw (← c.self.view_is) at c.requires.free) c.self.invariant.slabs;
      ends = c.self.invariant.ends;
    })
