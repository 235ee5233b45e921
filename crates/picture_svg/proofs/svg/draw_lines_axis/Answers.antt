use Rattle.std.specs.Prelude.{⊤}
use Rattle.picture_svg.proofs.JoinedTexts.{more, last_text}
use Rattle.picture_svg.proofs.svg.draw_lines_axis.Goals as goal

pub loop-k-preserved : goal.loop-k-preserved
loop-k-preserved g c = more (g.W.Write.contents c.writeln.new.self) _ c.loop-k.invariant c.in_ok-writeln.ensures.bytes

pub returns : goal.returns
returns g c =
    last_text (g.W.Write.contents c.writeln-2.new.self) c.writeln-2.result _ (λ _. ⊤) c.loop-k.invariant c.writeln-2.ensures.bytes (λ _ _. tt)
