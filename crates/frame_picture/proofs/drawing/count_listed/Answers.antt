use Rattle.std.proofs.Common.{◌≡◌, ℕ, ◌+◌, ◌++◌, List, take, ap, sym, ◌∙◌, arith}
use Rattle.kernel_core.specs.declared.frames.FrameKind.{FrameKind}
use Rattle.frame_picture.specs.Owned.{listed_cells}
use Rattle.frame_picture.proofs.OwnedLemmas.{listed_more, counts_more, shown_more}
use Rattle.frame_picture.proofs.drawing.count_listed.Goals as goal

pub loop-j-preserved : goal.loop-j-preserved
loop-j-preserved c =
    let cells = λ (n : ℕ). listed_cells c.args.order c.args.t c.args.first c.args.end c.args.sheets.now (take n c.args.own.now.listed) in
    let before : List FrameKind = cells c.loop-j.j in
    let here : List FrameKind = c.cells_of-cells.result.now in
    let more : cells (c.loop-j.j + 1) ≡ before ++ here =
    listed_more c.args.order c.args.t c.args.first c.args.end c.args.sheets.now c.args.own.now.listed c.loop-j.j c.index-sheets-own.result
    (omega (arith, c.requires.own.few, c.loop-j-test.true)) (c.requires.own.inside c.loop-j.j c.loop-j-test.true) c.index-sheets-own.is
    ∙ ap (λ x. before ++ x) (sym c.cells_of-cells.ensures) in
    record {
      long = c.count_cells.array_long;
      kinds = counts_more before here _ c.loop-j.counts c.count_cells.new.counts more c.loop-j.invariant.kinds c.count_cells.ensures.kinds;
      all = shown_more before here _ c.loop-j.shown c.count_cells.new.shown more c.loop-j.invariant.all c.count_cells.ensures.all;
    }
