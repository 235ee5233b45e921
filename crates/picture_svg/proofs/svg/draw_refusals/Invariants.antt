use Rattle.std.proofs.Common.{◌≡◌, ◌++◌, flat_map}
use Rattle.std.specs.List.{range_with_len}
use Rattle.picture_svg.specs.Marks.{refusal_mark, refusals_begin}
use Rattle.picture_svg.specs.Texts.{AppendsText}
use Rattle.picture_svg.proofs.svg.draw_refusals.Given as goal

-- the word `refused` and the marks of the columns so far are drawn
abbrev pub invariant-loop-at : goal.invariant-loop-at
invariant-loop-at g l = AppendsText (g.W.Write.contents l.fn.out) (g.W.Write.contents l.out)
    (λ text. text ≡ refusals_begin l.y l.gap ++ flat_map (refusal_mark l.columns l.t l.y) (range_with_len 0 l.at))
