use Rattle.std.specs.Prelude.{⊤}
use Rattle.picture_svg.specs.Texts.{AppendsText}
use Rattle.picture_svg.proofs.svg.draw_frames_axis.Given as goal

abbrev pub invariant-loop-k : goal.invariant-loop-k
invariant-loop-k g l = AppendsText (g.W.Write.contents l.fn.out) (g.W.Write.contents l.out) (λ _. ⊤)
