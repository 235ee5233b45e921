use Rattle.std.proofs.Common.{◌≡◌, refl}
use Rattle.picture_svg.specs.Texts.{rectangle_path}
use Rattle.picture_svg.proofs.JoinedTexts.{only_text}
use Rattle.picture_svg.proofs.svg.draw_rectangle.Goals as goal

pub returns : goal.returns
unfolding rectangle_path
returns g c =
    only_text (g.W.Write.contents c.args.out.now) (g.W.Write.contents c.write.new.self) c.write.result _
    (λ text. text ≡ rectangle_path c.args.rectangle) c.write.ensures.bytes refl
