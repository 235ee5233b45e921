use Rattle.std.proofs.Common.{◌+◌, ◌<◌, ℕ, sym, subst, ◌∙◌, IfSome, Option, arith}
use Rattle.model_core.specs.Reports.{free_count}
use Rattle.kernel_core.proofs.ReportFigures.{rows_more, greatest_some, greatest_none, live_more, row_is, below_more}
use Rattle.kernel_core.proofs.reporting.orders_of.Goals as goal

pub overflow_add-live : goal.overflow_add-live
overflow_add-live c =
    let more = live_more c.args.buddy.now c.args.t c.loop-k.k c.loop-k.live c.taken_count.result c.requires.fit (omega arith) c.loop-k.invariant.1 c.taken_count.ensures in
    omega arith

pub loop-k-preserved : goal.loop-k-preserved
loop-k-preserved c =
    let more = live_more c.args.buddy.now c.args.t c.loop-k.k c.loop-k.live c.taken_count.result c.requires.fit (omega arith) c.loop-k.invariant.1 c.taken_count.ensures in (
      omega arith,
      more.0,
      elim c.if-row-ne0.branch [
        | goal.then-row-ne0 w ↦ subst (λ (o : Option ℕ). IfSome o (λ j. j < c.loop-k.k + 1)) (sym w.top-is) (omega arith)
        | goal.else-row-ne0 w ↦ subst (λ (o : Option ℕ). IfSome o (λ j. j < c.loop-k.k + 1)) (sym w.top-is) (below_more c.loop-k.top c.loop-k.k c.loop-k.invariant.2)
      ],
      λ m h. (
        c.push.ensures.items ∙ rows_more c.args.buddy.now.top c.loop-k.k m c.loop-k.orders.items _ (c.loop-k.invariant.3 m h).0
            (row_is _ _ _ _ (c.free_count.ensures ∙ sym (h.free c.loop-k.k)) (c.taken_count.ensures ∙ sym (h.taken c.loop-k.k))),
        elim c.if-row-ne0.branch [
          | goal.then-row-ne0 w ↦ w.top-is ∙ greatest_some (free_count c.args.buddy.now.top m) c.loop-k.k
              (λ e. w.if-row-ne0.true (c.free_count.ensures ∙ sym (h.free c.loop-k.k) ∙ e))
          | goal.else-row-ne0 w ↦ w.top-is ∙ greatest_none (free_count c.args.buddy.now.top m) c.loop-k.k c.loop-k.top (c.loop-k.invariant.3 m h).1
              (h.free c.loop-k.k ∙ sym c.free_count.ensures ∙ w.if-row-ne0.false)
        ],
      ),
    )
