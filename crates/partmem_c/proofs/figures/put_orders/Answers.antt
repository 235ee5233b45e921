use Rattle.std.proofs.Common.{◌≡◌, suc, ◌+◌, ◌++◌, map, take, drop, slice_set, slice_index_or, ap, ◌∙◌, arith}
use Rattle.model_core.specs.declared.report.OrderRow.{OrderRow}
use Rattle.partmem_c.specs.Figures.{order_figures}
use Rattle.partmem_c.proofs.FigureLemmas.{row_put, rows_put}
use Rattle.partmem_c.proofs.figures.put_orders.Goals as goal

pub loop-at-preserved : goal.loop-at-preserved
loop-at-preserved c =
    let rows = c.args.rows.now in let at = c.loop-at.at in let none : OrderRow = record { free = 0; taken = 0 } in
    let next : suc at ≡ at + 1 = omega arith in
    ap (λ xs. slice_set xs at (order_figures (slice_index_or rows at none))) c.loop-at.invariant
    ∙ row_put order_figures rows c.args.to.now at none c.loop-at-test.true c.requires
    ∙ ap (λ n. map order_figures (take n rows) ++ drop n c.args.to.now) next

pub returns : goal.returns
returns c = c.loop-at.invariant ∙ rows_put order_figures c.args.rows.now c.args.to.now c.loop-at.at c.loop-at.auto.at-end c.loop-at-test.false
