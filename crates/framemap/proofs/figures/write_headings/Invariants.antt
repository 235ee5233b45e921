use Rattle.std.proofs.Common.{◌≡◌, ◌++◌, codes, flat_map}
use Rattle.std.specs.List.{range_with_len}
use Rattle.picture_svg.specs.Texts.{AppendsText}
use Rattle.framemap.specs.Tables.{free_heading}
use Rattle.framemap.proofs.figures.write_headings.Given as goal

-- the first six headings, and the headings of the orders so far, are written
abbrev pub invariant-loop-order : goal.invariant-loop-order
invariant-loop-order g l = AppendsText (g.W.Write.contents l.fn.out) (g.W.Write.contents l.out)
    (λ text. text ≡ codes "line,tenant,held,taken,most,refused" ++ flat_map free_heading (range_with_len 0 l.order-counter))
