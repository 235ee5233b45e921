use Rattle.std.proofs.Common.{◌≡◌, ℕ, ◌+◌, ◌-◌, List, ◌++◌, flat_map, length, ap, subst, sym, ◌∙◌, arith}
use Rattle.std.proofs.lemmas.List.Concat.{flat_map-append}
use Rattle.frame_picture.specs.declared.rectangles.Rectangle.{Rectangle}
use Rattle.frame_picture.specs.Rectangles.{AreRectangles}
use Rattle.frame_picture.proofs.RectanglesCover.{covers, rectangles_on}
use Rattle.picture_svg.specs.Texts.{rectangle_path}
use Rattle.picture_svg.proofs.JoinedTexts.{both}
use Rattle.picture_svg.proofs.svg.draw_cells.Goals as goal

pub loop-column-preserved : goal.loop-column-preserved
loop-column-preserved g c =
    let column : ℕ = c.loop-column.column in
    let before : column + 1 - 1 ≡ column = omega arith in
    both
    (λ text. (rectangles : List Rectangle) × AreRectangles c.args.columns.now c.args.tone c.args.rows c.args.rows 0 (column + 1) rectangles
    × (text ≡ flat_map rectangle_path rectangles))
    c.loop-column.invariant c.in_ok-draw_ended.ensures
    (λ x y front back. (
      front.0 ++ back.0,
      rectangles_on c.args.columns.now c.args.tone c.args.rows c.args.rows 0 column (column + 1) front.0 back.0 (omega arith) front.1
          (subst (λ from. AreRectangles c.args.columns.now c.args.tone c.args.rows c.args.rows from (column + 1) back.0) before back.1),
      ap (λ t. t ++ y) front.2 ∙ ap (λ t. flat_map rectangle_path front.0 ++ t) back.2 ∙ sym (flat_map-append rectangle_path front.0 back.0),
    ))

pub returns : goal.returns
returns g c =
    let all : c.loop-column.column ≡ length c.args.columns.now = omega arith in
    let here = c.loop-column.invariant in
    record {
      text = here.text;
      appended = here.appended;
      is = (
        here.is.0,
        covers c.args.columns.now c.args.tone c.args.rows here.is.0
            (subst (λ to. AreRectangles c.args.columns.now c.args.tone c.args.rows c.args.rows 0 to here.is.0) all here.is.1),
        here.is.2,
      );
    }
