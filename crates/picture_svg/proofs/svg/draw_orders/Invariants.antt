use Rattle.std.specs.Prelude.{⊤}
use Rattle.picture_svg.specs.Texts.{AppendsText}
use Rattle.picture_svg.proofs.svg.draw_orders.Given as goal

abbrev pub invariant-loop-depth : goal.invariant-loop-depth
invariant-loop-depth g l = AppendsText (g.W.Write.contents l.fn.out) (g.W.Write.contents l.out) (λ _. ⊤)
