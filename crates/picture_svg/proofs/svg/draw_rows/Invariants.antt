use Rattle.std.proofs.Common.{◌≡◌, ◌++◌, ℕ, List, length, take}
use Rattle.std.specs.List.{AllZip, concat}
use Rattle.frame_picture.specs.declared.kinds.TheConstants.{ALL}
use Rattle.picture_svg.specs.Cells.{group_begin, AreKindPaths}
use Rattle.picture_svg.specs.Texts.{AppendsText}
use Rattle.picture_svg.proofs.svg.draw_rows.Given as goal

-- the beginning of the group and the paths of the kinds so far are drawn
abbrev pub invariant-loop-kind : goal.invariant-loop-kind
invariant-loop-kind g l = AppendsText (g.W.Write.contents l.fn.out) (g.W.Write.contents l.out)
    (λ text. (paths : List (List ℕ)) × AllZip (AreKindPaths l.columns l.grid) (take l.kind-index ALL) paths
    × (text ≡ group_begin (length l.columns) l.grid.rows l.fn.foot ++ concat paths))
