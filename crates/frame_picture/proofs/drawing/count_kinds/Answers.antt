use Rattle.std.proofs.Common.{◌≡◌, ℕ, ◌+◌, ◌<◌, ◌++◌, List, length, take, ap, sym, ◌∙◌, arith, length-drop}
use Rattle.std.proofs.lemmas.List.{get_or-drop, take_rest}
use Rattle.kernel_core.specs.declared.frames.FrameKind.{FrameKind}
use Rattle.frame_picture.specs.Rows.{row_cells}
use Rattle.frame_picture.proofs.RowLemmas.{row_cells_more}
use Rattle.frame_picture.proofs.OwnedLemmas.{counts_more, shown_more}
use Rattle.frame_picture.proofs.drawing.count_kinds.Goals as goal

pub loop-sheet-preserved : goal.loop-sheet-preserved
loop-sheet-preserved c =
    let cells = λ (n : ℕ). row_cells c.args.order c.args.t c.args.first c.args.end (take n c.args.sheets.now) in
    let rest : ℕ = c.args.own.now.rest in
    let at : ℕ = rest + c.loop-sheet.sheet-index in
    let before : List FrameKind = cells at in
    let here : List FrameKind = c.cells_of-cells.result.now in
    let test = rw (take_rest c.args.sheets.now rest) at c.loop-sheet-test.true in
    let is = rw (take_rest c.args.sheets.now rest) at c.sheet-item.is in
    let within : at < length c.args.sheets.now = omega (arith, test, length-drop rest c.args.sheets.now) in
    let more : cells (rest + (c.loop-sheet.sheet-index + 1)) ≡ before ++ here =
    ap cells (omega arith)
    ∙ row_cells_more c.args.order c.args.t c.args.first c.args.end c.args.sheets.now at c.sheet-item.result within (is ∙ get_or-drop rest c.args.sheets.now c.loop-sheet.sheet-index c.sheet-item.result)
    ∙ ap (λ x. before ++ x) (sym c.cells_of-cells.ensures) in
    record {
      long = c.count_cells.array_long;
      kinds = counts_more before here _ c.loop-sheet.counts c.count_cells.new.counts more c.loop-sheet.invariant.kinds c.count_cells.ensures.kinds;
      all = shown_more before here _ c.loop-sheet.shown c.count_cells.new.shown more c.loop-sheet.invariant.all c.count_cells.ensures.all;
    }
