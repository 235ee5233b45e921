use Rattle.std.proofs.Common.{◌*◌, min, max}
use Rattle.shadow_memory.specs.Summaries.{AreSummarized, IsChanged}
use Rattle.shadow_memory.proofs.ranges.change_frames.Given as goal

abbrev pub invariant-loop-frame : goal.invariant-loop-frame
invariant-loop-frame g l = record {
  changed : IsChanged (g.C.Change.step l.change) l.first l.low (max l.low (min (l.frame * 4096) l.high)) l.fn.cells l.cells;
  chunks : AreSummarized 64 l.chunks l.cells;
  frames : AreSummarized 4096 l.frames l.cells;
}
