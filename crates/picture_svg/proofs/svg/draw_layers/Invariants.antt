use Rattle.std.proofs.Common.{◌≡◌, flat_map}
use Rattle.std.specs.List.{range_with_len}
use Rattle.picture_svg.specs.Marks.{layer_text}
use Rattle.picture_svg.specs.Texts.{AppendsText}
use Rattle.picture_svg.proofs.svg.draw_layers.Given as goal

-- the layers of the orders so far are drawn
abbrev pub invariant-loop-k : goal.invariant-loop-k
invariant-loop-k g l = AppendsText (g.W.Write.contents l.fn.out) (g.W.Write.contents l.out)
    (λ text. text ≡ flat_map (layer_text l.columns l.t l.order l.foot l.most) (range_with_len 0 l.k))
