use Rattle.std.proofs.Common.{ℕ, ◌-◌, ◌<◌, ◌≤◌}
use Rattle.slab_core.specs.Fitting.{IsUnusedFrame, IsBorder}
use Rattle.slab_core.proofs.fitting.View.is_unused_block.Given as goal

abbrev pub invariant-loop-frame : goal.invariant-loop-frame
invariant-loop-frame l = record {
  from : l.first ≤ l.frame;
  unused : (x : ℕ) → l.first ≤ x → x < l.frame → IsUnusedFrame l.self.space.now l.self.buddy.now l.self.tables.now l.self.tenant x;
  border : IsBorder l.self.buddy.now l.self.tenant l.frame;
}

abbrev pub decreases-loop-frame : goal.decreases-loop-frame
decreases-loop-frame l = l.end - l.frame
