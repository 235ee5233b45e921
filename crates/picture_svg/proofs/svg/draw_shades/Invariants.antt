use Rattle.std.proofs.Common.{◌≡◌, ℕ, List, [], ◌∷◌, filter, take}
use Rattle.std.specs.List.{AllZip, concat}
use Rattle.picture_svg.specs.Cells.{is_drawn, shade_of, IsTonePath}
use Rattle.picture_svg.specs.Texts.{AppendsText}
use Rattle.picture_svg.proofs.svg.draw_shades.Given as goal

-- the paths of the drawn shades among the shades so far are written
abbrev pub invariant-loop-shade : goal.invariant-loop-shade
invariant-loop-shade g l = AppendsText (g.W.Write.contents l.fn.out) (g.W.Write.contents l.out)
    (λ text. (paths : List (List ℕ))
    × AllZip (λ quarters path. IsTonePath l.columns l.rows (record { kind = l.kind; quarters = quarters }) (shade_of quarters) path)
    (filter (is_drawn l.grid) (take l.shade-index (1 ∷ 2 ∷ 3 ∷ 4 ∷ []))) paths
    × (text ≡ concat paths))
