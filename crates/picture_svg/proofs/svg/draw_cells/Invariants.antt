use Rattle.std.proofs.Common.{◌≡◌, List, flat_map}
use Rattle.frame_picture.specs.declared.rectangles.Rectangle.{Rectangle}
use Rattle.frame_picture.specs.Rectangles.{AreRectangles}
use Rattle.picture_svg.specs.Texts.{AppendsText, rectangle_path}
use Rattle.picture_svg.proofs.svg.draw_cells.Given as goal

-- the rectangles whose last column is one of the columns so far are drawn
abbrev pub invariant-loop-column : goal.invariant-loop-column
invariant-loop-column g l = AppendsText (g.W.Write.contents l.fn.out) (g.W.Write.contents l.out)
    (λ text. (rectangles : List Rectangle) × AreRectangles l.columns l.tone l.rows l.rows 0 l.column rectangles × (text ≡ flat_map rectangle_path rectangles))
