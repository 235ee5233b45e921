use Rattle.std.proofs.Common.{◌+◌, arith}
use Rattle.shadow_memory.specs.Inside.{doubted_of}
use Rattle.shadow_memory.proofs.RangeChanges.{changed_more}
use Rattle.shadow_memory.proofs.change.DoubtChange.change_places.Goals as goal

pub loop-k-preserved : goal.loop-k-preserved
loop-k-preserved g c = changed_more (doubted_of (g.T.HolderPredicate.test c.args.self.now.0)) c.args._first c.args.low c.loop-k.k
    c.args.cells.now c.loop-k.cells
    c.doubted.result (omega arith) (omega arith) c.loop-k.invariant (c.doubted.ensures (c.args._first + c.loop-k.k))
