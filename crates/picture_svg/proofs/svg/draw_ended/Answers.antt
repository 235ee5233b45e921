use Rattle.std.proofs.Common.{◌≡◌, ◌+◌, ◌-◌, List, [], ◌∷◌, ◌++◌, flat_map, ap, ◌∙◌}
use Rattle.std.proofs.lemmas.List.{flat_map_more}
use Rattle.frame_picture.specs.declared.rectangles.Rectangle.{Rectangle}
use Rattle.frame_picture.specs.Rectangles.{AreRectangles}
use Rattle.frame_picture.proofs.RectanglesCover.{row_with, row_without}
use Rattle.picture_svg.specs.Texts.{rectangle_path}
use Rattle.picture_svg.proofs.JoinedTexts.{both}
use Rattle.picture_svg.proofs.svg.draw_ended.Goals as goal
use Rattle.picture_svg.proofs.svg.draw_ended.Goals.{in-Some+in_ok-draw_rectangle, in_default}

pub loop-row-preserved : goal.loop-row-preserved
loop-row-preserved g c =
    elim c.match-rectangle_at.branch [
      | in-Some+in_ok-draw_rectangle w ↦
          let r : Rectangle = w.in-Some.rectangle in
          rw w.out-is (both
          (λ text. (rectangles : List Rectangle) × AreRectangles c.args.columns.now c.args.tone c.args.rows (c.loop-row.row + 1) (c.args.end - 1) c.args.end rectangles
          × (text ≡ flat_map rectangle_path rectangles))
          c.loop-row.invariant w.in_ok-draw_rectangle.ensures
          (λ x y are is. (
            are.0 ++ r ∷ [],
            row_with c.args.columns.now c.args.tone c.args.rows c.loop-row.row c.args.end are.0 r w.in-Some.ensures.row w.in-Some.ensures.rectangle are.1,
            ap (λ t. t ++ y) are.2 ∙ ap (λ t. flat_map rectangle_path are.0 ++ t) is ∙ flat_map_more rectangle_path [] are.0 r,
          )))
      | in_default w ↦
          let here = c.loop-row.invariant in
          rw w.out-is (record {
            text = here.text;
            appended = here.appended;
            is = (here.is.0, row_without c.args.columns.now c.args.tone c.args.rows c.loop-row.row c.args.end here.is.0 w.in_default.ensures.rectangle here.is.1, here.is.2);
          })
    ]
