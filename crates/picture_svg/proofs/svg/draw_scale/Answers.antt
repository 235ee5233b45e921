use Rattle.std.proofs.Common.{append_assoc}
use Rattle.picture_svg.specs.Marks.{scale_text}
use Rattle.picture_svg.proofs.JoinedTexts.{exactly, then_exactly, last_exactly}
use Rattle.picture_svg.proofs.svg.draw_scale.Goals as goal

pub returns : goal.returns
unfolding scale_text
returns g c =
    last_exactly (g.W.Write.contents c.writeln-3.new.self) c.writeln-3.result _ (scale_text c.args.top c.args.foot c.args.most)
    (then_exactly (g.W.Write.contents c.writeln-2.new.self) _
    (exactly (g.W.Write.contents c.args.out.now) (g.W.Write.contents c.writeln.new.self) _ c.in_ok-writeln.ensures.bytes) c.in_ok-writeln-2.ensures.bytes)
    c.writeln-3.ensures.bytes (simp (c.saturating_add.ensures, append_assoc))
