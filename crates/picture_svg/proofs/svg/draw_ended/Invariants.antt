use Rattle.std.proofs.Common.{◌≡◌, ◌-◌, List, flat_map}
use Rattle.frame_picture.specs.declared.rectangles.Rectangle.{Rectangle}
use Rattle.frame_picture.specs.Rectangles.{AreRectangles}
use Rattle.picture_svg.specs.Texts.{AppendsText, rectangle_path}
use Rattle.picture_svg.proofs.svg.draw_ended.Given as goal

-- the rectangles whose last column is column `end` - 1, and whose lowest row is one of the rows so far, are drawn
abbrev pub invariant-loop-row : goal.invariant-loop-row
invariant-loop-row g l = AppendsText (g.W.Write.contents l.fn.out) (g.W.Write.contents l.out)
    (λ text. (rectangles : List Rectangle) × AreRectangles l.columns l.tone l.rows l.row (l.end - 1) l.end rectangles × (text ≡ flat_map rectangle_path rectangles))
