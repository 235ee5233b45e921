use Rattle.std.proofs.Common.{◌≡◌, flat_map, take}
use Rattle.picture_svg.specs.Texts.{AppendsText}
use Rattle.framemap.specs.Tables.{free_cell}
use Rattle.framemap.proofs.figures.write_cells.Given as goal

-- the numbers so far are written, each after a comma
abbrev pub invariant-loop-number : goal.invariant-loop-number
invariant-loop-number g l = AppendsText (g.W.Write.contents l.fn.out) (g.W.Write.contents l.out)
    (λ text. text ≡ flat_map free_cell (take l.number-index l.numbers))
