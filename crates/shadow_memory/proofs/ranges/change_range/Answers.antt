use Rattle.std.proofs.Common.{ℕ, length, min, max, ap, ◌∙◌}
use Rattle.shadow_memory.proofs.RangeChanges.{changed_within}
use Rattle.shadow_memory.proofs.ranges.change_range.Goals as goal

pub returns-clause-cells : goal.returns-clause-cells
returns-clause-cells g c = changed_within (g.C.Change.step c.args.change.now) c.args.first c.min-low.result c.max-high.result c.args.begin c.args.end
    c.args.cells.now c.change_frames.new.cells (c.min-low.ensures ∙ ap (λ (n : ℕ). min n (length c.args.cells.now)) c.saturating_sub.ensures)
    (c.max-high.ensures ∙ ap (λ (n : ℕ). max n c.min-low.result) (c.min.ensures ∙ ap (λ (n : ℕ). min n (length c.args.cells.now)) c.saturating_sub-2.ensures))
    c.change_frames.ensures.changed
