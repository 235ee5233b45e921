use Rattle.std.proofs.Common.{◌≡◌, ℕ, suc, ◌+◌, ◌++◌, map, take, drop, slice_set, slice_index_or, ap, ◌∙◌, arith}
use Rattle.model_core.specs.declared.report.CacheRow.{CacheRow}
use Rattle.partmem_c.specs.Figures.{cache_figures}
use Rattle.partmem_c.proofs.FigureLemmas.{row_put, rows_put}
use Rattle.partmem_c.proofs.figures.put_caches.Goals as goal

pub loop-at-preserved : goal.loop-at-preserved
loop-at-preserved c =
    let rows = c.args.rows.now in let at = c.loop-at.at in let none : CacheRow = record { cache = 0; full = 0; partial = 0; empty = 0; live = 0 } in
    let next : suc at ≡ at + 1 = omega arith in
    let row : CacheRow = slice_index_or rows at none in
    ap (λ (number : ℕ). slice_set c.loop-at.to at (record (cache_figures row) { cache = number })) c.from.ensures
    ∙ ap (λ xs. slice_set xs at (cache_figures row)) c.loop-at.invariant
    ∙ row_put cache_figures rows c.args.to.now at none c.loop-at-test.true c.requires
    ∙ ap (λ n. map cache_figures (take n rows) ++ drop n c.args.to.now) next

pub returns : goal.returns
returns c = c.loop-at.invariant ∙ rows_put cache_figures c.args.rows.now c.args.to.now c.loop-at.at c.loop-at.auto.at-end c.loop-at-test.false
