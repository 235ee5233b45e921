use Rattle.std.proofs.Common.{◌≡◌, ℕ, ◌+◌, ◌*◌, ◌/◌, ◌<◌, ◌≤◌, List, min, max, refl, sym, subst, arith}
use Rattle.shadow_memory.specs.declared.summary.Summary.{Summary}
use Rattle.shadow_memory.specs.Summaries.{AreSummarized}
use Rattle.shadow_memory.proofs.RangeChanges.{changed_part, marked_part, left_part}
use Rattle.shadow_memory.proofs.ranges.change_frames.Goals as goal

here : (part k : ℕ) → part * 4096 ≤ k → k < part * 4096 + 4096 → k / 4096 ≡ part
here part k le lt = omega arith

only : (part k : ℕ) → k / 4096 ≡ part → (part * 4096 ≤ k) × (k < part * 4096 + 4096)
only part k e = (omega arith, omega arith)

pub loop-frame-preserved-then-leaves : goal.loop-frame-preserved-then-leaves
loop-frame-preserved-then-leaves g c =
    let step = g.C.Change.step c.args.change.now in
    let part = c.loop-frame.frame in
    let begin : ℕ = max (part * 4096) c.args.low in
    let end : ℕ = min (part * 4096 + 4096) c.args.high in
    let cells = c.loop-frame.cells in
    record {
      changed = changed_part step c.args.first 4096 part c.args.low c.args.high begin end c.args.cells.now cells cells (omega arith) (omega arith)
          c.requires.order refl refl c.loop-frame.invariant.changed
          (left_part step c.args.first 4096 part begin end c.loop-frame.frames c.summary_at-summary.result cells (here part) (omega arith) (omega arith)
          c.summary_at-summary.ensures (c.leaves.ensures c.if-leaves.true) c.loop-frame.invariant.frames);
      chunks = c.loop-frame.invariant.chunks;
      frames = c.loop-frame.invariant.frames;
    }

pub loop-frame-preserved : goal.loop-frame-preserved
loop-frame-preserved g c =
    let step = g.C.Change.step c.args.change.now in
    let part = c.loop-frame.frame in
    let cells = c.loop-frame.cells in
    record {
      changed = changed_part step c.args.first 4096 part c.args.low c.args.high c.max-begin.result c.min-end.result c.args.cells.now cells
          c.change_chunks.new.cells (omega arith) (omega arith) c.requires.order c.max-begin.ensures c.min-end.ensures c.loop-frame.invariant.changed c.change_chunks.ensures.changed;
      chunks = c.change_chunks.ensures.marked;
      frames = subst (λ (ms : List Summary). AreSummarized 4096 ms c.change_chunks.new.cells) (sym c.set_summary.ensures)
          (marked_part step c.args.first 4096 part c.max-begin.result c.min-end.result c.loop-frame.frames c.summary_at-summary.result c.summary_after.result _ cells
          c.change_chunks.new.cells (here part) (only part) (omega (arith, c.max-begin.ensures)) (omega (arith, c.min-end.ensures))
          (omega (arith, c.max-begin.ensures, c.min-end.ensures, c.requires.order)) refl c.summary_at-summary.ensures
          c.summary_after.ensures.changed c.summary_after.ensures.kept c.loop-frame.invariant.frames c.change_chunks.ensures.changed);
    }
