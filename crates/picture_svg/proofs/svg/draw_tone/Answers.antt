use Rattle.std.proofs.Common.{◌≡◌, ◌++◌, List, ℕ, codes, flat_map, ap, ◌∙◌, append_assoc}
use Rattle.frame_picture.specs.declared.rectangles.Rectangle.{Rectangle}
use Rattle.frame_picture.specs.Rectangles.{CoverTone}
use Rattle.picture_svg.specs.Texts.{path_text, rectangle_path}
use Rattle.picture_svg.specs.Cells.{class_of, IsTonePath}
use Rattle.picture_svg.proofs.JoinedTexts.{both, exactly, last_text}
use Rattle.picture_svg.proofs.svg.draw_tone.Goals as goal

-- the parts of a path, appended one after another, are the text of the path
whole_path : (kind class shade path : List ℕ) → kind ≡ class
    → ((codes "<path class=\"" ++ (kind ++ (shade ++ codes "\" d=\""))) ++ path) ++ codes "\"/>\n" ≡ path_text class shade path
unfolding path_text
whole_path kind class shade path is = simp (is, append_assoc)

pub returns : goal.returns
returns g c =
    let front : List ℕ = codes "<path class=\"" ++ (c.class_of.result.now ++ (c.args.shade.now ++ codes "\" d=\"")) in
    last_text (g.W.Write.contents c.write_all.new.self) c.write_all.result (codes "\"/>\n") (IsTonePath c.args.columns.now c.args.rows c.args.tone c.args.shade.now)
    (both
    (λ text. (rectangles : List Rectangle) × CoverTone c.args.columns.now c.args.tone c.args.rows rectangles × (text ≡ front ++ flat_map rectangle_path rectangles))
    (exactly (g.W.Write.contents c.args.out.now) (g.W.Write.contents c.write.new.self) front c.in_ok-write.ensures.bytes)
    c.in_ok-draw_cells.ensures
    (λ x y is cells. (cells.0, cells.1, ap (λ t. t ++ y) is ∙ ap (λ t. front ++ t) cells.2)))
    c.write_all.ensures.bytes
    (λ x is. record {
      rectangles = is.0;
      cells = is.1;
      whole = ap (λ t. t ++ codes "\"/>\n") is.2
          ∙ whole_path c.class_of.result.now (class_of c.args.tone.kind) c.args.shade.now (flat_map rectangle_path is.0) c.class_of.ensures;
    })
