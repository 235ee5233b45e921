use Rattle.std.proofs.Common.{◌≡◌, ℕ, ◌+◌, ◌*◌, ◌/◌, ◌<◌, ◌≤◌, List, min, max, refl, sym, subst, arith}
use Rattle.shadow_memory.specs.declared.summary.Summary.{Summary}
use Rattle.shadow_memory.specs.Summaries.{AreSummarized}
use Rattle.shadow_memory.proofs.RangeChanges.{changed_part, marked_part, left_part}
use Rattle.shadow_memory.proofs.ranges.change_chunks.Goals as goal

here : (part k : ℕ) → part * 64 ≤ k → k < part * 64 + 64 → k / 64 ≡ part
here part k le lt = omega arith

only : (part k : ℕ) → k / 64 ≡ part → (part * 64 ≤ k) × (k < part * 64 + 64)
only part k e = (omega arith, omega arith)

pub loop-chunk-preserved-then-leaves : goal.loop-chunk-preserved-then-leaves
loop-chunk-preserved-then-leaves g c =
    let step = g.C.Change.step c.args.change.now in
    let part = c.loop-chunk.chunk in
    let begin : ℕ = max (part * 64) c.args.low in
    let end : ℕ = min (part * 64 + 64) c.args.high in
    let cells = c.loop-chunk.cells in
    record {
      changed = changed_part step c.args.first 64 part c.args.low c.args.high begin end c.args.cells.now cells cells (omega arith) (omega arith)
          c.requires.order refl refl c.loop-chunk.invariant.changed
          (left_part step c.args.first 64 part begin end c.loop-chunk.chunks c.summary_at-summary.result cells (here part) (omega arith) (omega arith)
          c.summary_at-summary.ensures (c.leaves.ensures c.if-leaves.true) c.loop-chunk.invariant.marked);
      marked = c.loop-chunk.invariant.marked;
    }

pub loop-chunk-preserved : goal.loop-chunk-preserved
loop-chunk-preserved g c =
    let step = g.C.Change.step c.args.change.now in
    let part = c.loop-chunk.chunk in
    let cells = c.loop-chunk.cells in
    record {
      changed = changed_part step c.args.first 64 part c.args.low c.args.high c.max-begin.result c.min-end.result c.args.cells.now cells
          c.change_places.new.cells (omega arith) (omega arith) c.requires.order c.max-begin.ensures c.min-end.ensures c.loop-chunk.invariant.changed c.change_places.ensures;
      marked = subst (λ (ms : List Summary). AreSummarized 64 ms c.change_places.new.cells) (sym c.set_summary.ensures)
          (marked_part step c.args.first 64 part c.max-begin.result c.min-end.result c.loop-chunk.chunks c.summary_at-summary.result c.summary_after.result _ cells
          c.change_places.new.cells (here part) (only part) (omega (arith, c.max-begin.ensures)) (omega (arith, c.min-end.ensures))
          (omega (arith, c.max-begin.ensures, c.min-end.ensures, c.requires.order)) refl c.summary_at-summary.ensures
          c.summary_after.ensures.changed c.summary_after.ensures.kept c.loop-chunk.invariant.marked c.change_places.ensures);
    }
