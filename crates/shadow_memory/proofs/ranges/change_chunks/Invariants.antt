use Rattle.std.proofs.Common.{◌*◌, min, max}
use Rattle.shadow_memory.specs.Summaries.{AreSummarized, IsChanged}
use Rattle.shadow_memory.proofs.ranges.change_chunks.Given as goal

abbrev pub invariant-loop-chunk : goal.invariant-loop-chunk
invariant-loop-chunk g l = record {
  changed : IsChanged (g.C.Change.step l.change) l.first l.low (max l.low (min (l.chunk * 64) l.high)) l.fn.cells l.cells;
  marked : AreSummarized 64 l.chunks l.cells;
}
