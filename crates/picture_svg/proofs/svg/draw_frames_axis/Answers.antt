use Rattle.picture_svg.proofs.JoinedTexts.{exactly, more}
use Rattle.picture_svg.proofs.svg.draw_frames_axis.Goals as goal

pub loop-k-init : goal.loop-k-init
loop-k-init g c =
    more (g.W.Write.contents c.writeln-2.new.self) _
    (exactly (g.W.Write.contents c.args.out.now) (g.W.Write.contents c.writeln.new.self) _ c.in_ok-writeln.ensures.bytes) c.in_ok-writeln-2.ensures.bytes

pub loop-k-preserved : goal.loop-k-preserved
loop-k-preserved g c = more (g.W.Write.contents c.writeln-in-loop-k.new.self) _ c.loop-k.invariant c.in_ok-writeln-3.ensures.bytes
