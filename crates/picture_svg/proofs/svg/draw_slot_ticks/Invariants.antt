use Rattle.std.specs.Prelude.{⊤}
use Rattle.picture_svg.specs.Texts.{AppendsText}
use Rattle.picture_svg.proofs.svg.draw_slot_ticks.Given as goal

abbrev pub invariant-loop-mark : goal.invariant-loop-mark
invariant-loop-mark g l = AppendsText (g.W.Write.contents l.fn.out) (g.W.Write.contents l.out) (λ _. ⊤)
