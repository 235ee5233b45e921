use Rattle.std.proofs.Common.{◌≡◌, flat_map}
use Rattle.std.specs.List.{range_with_len}
use Rattle.picture_svg.specs.Marks.{turn_text}
use Rattle.picture_svg.specs.Texts.{AppendsText}
use Rattle.picture_svg.proofs.svg.draw_turns.Given as goal

-- the steps at the columns so far are drawn
abbrev pub invariant-loop-at : goal.invariant-loop-at
invariant-loop-at g l = AppendsText (g.W.Write.contents l.fn.out) (g.W.Write.contents l.out)
    (λ text. text ≡ flat_map (turn_text l.columns l.t l.order) (range_with_len 0 l.at-counter))
