use Rattle.std.proofs.Common.{◌≡◌, ◌+◌, ◌++◌, take}
use Rattle.frame_picture.specs.Histories.{columns_of, drawn_order}
use Rattle.picture_svg.specs.Texts.{AppendsText}
use Rattle.framemap.specs.Tables.{heading_text, rows_of_columns}
use Rattle.framemap.proofs.figures.write_figures.Given as goal

-- the headings and the rows of the columns so far are written
abbrev pub invariant-loop-at : goal.invariant-loop-at
invariant-loop-at g l = AppendsText (g.W.Write.contents l.fn.out) (g.W.Write.contents l.out)
    (λ text. text ≡ heading_text (drawn_order l.history + 1)
    ++ rows_of_columns (drawn_order l.history + 1) l.peaks l.first l.end 0 (take l.at (columns_of l.history)))
