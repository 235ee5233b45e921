use Rattle.picture_svg.proofs.JoinedTexts.{more, more_texts}
use Rattle.picture_svg.proofs.svg.draw_orders.Goals as goal

pub loop-depth-preserved : goal.loop-depth-preserved
loop-depth-preserved g c =
    more (g.W.Write.contents c.writeln-in-loop-depth.new.self) _ (more_texts c.loop-depth.invariant c.in_ok-draw_swatch.ensures) c.in_ok-writeln-2.ensures.bytes

pub returns-in_ok-writeln-2 : goal.returns-in_ok-writeln-2
returns-in_ok-writeln-2 g c =
    more (g.W.Write.contents c.writeln-in-loop-depth.new.self) _ (more_texts c.loop-depth.invariant c.in_ok-draw_swatch.ensures) c.in_ok-writeln-2.ensures.bytes
