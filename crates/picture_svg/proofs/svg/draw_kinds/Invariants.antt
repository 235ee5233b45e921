use Rattle.std.specs.Prelude.{⊤}
use Rattle.picture_svg.specs.Texts.{AppendsText}
use Rattle.picture_svg.proofs.svg.draw_kinds.Given as goal

abbrev pub invariant-loop-cell : goal.invariant-loop-cell
invariant-loop-cell g l = AppendsText (g.W.Write.contents l.fn.out) (g.W.Write.contents l.out) (λ _. ⊤)
