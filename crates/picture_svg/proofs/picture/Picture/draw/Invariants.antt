use Rattle.std.proofs.Common.{◌≡◌, ℕ, ◌^◌, ◌-◌, ◌≤◌, max, List, ◌++◌, length, option_copied}
use Rattle.frame_picture.specs.declared.grid.Grid.{Grid}
use Rattle.frame_picture.specs.Histories.{drawn_order, line_count, superblocks_of, width_of}
use Rattle.picture_svg.specs.declared.svg.TheConstants.{HEAD}
use Rattle.picture_svg.specs.Pictures.{bottom_of, drawn_tenants, most_rows_of, rows_of, AreBands, IsSamePicture}
use Rattle.picture_svg.specs.Texts.{opening_text, title_text, AppendsText}
use Rattle.picture_svg.proofs.PictureLemmas.{AreGrids}
use Rattle.picture_svg.proofs.picture.Picture.draw.Given as goal

-- `height` is the y coordinate at which the bands of the tenants so far end
abbrev pub invariant-loop-t : goal.invariant-loop-t
invariant-loop-t g l = record {
  same : l.self ≡ l.fn.self;
  within : l.t ≤ max l.fn.self.first l.fn.self.end;
  bands : (grids : List Grid) × AreGrids l.history (most_rows_of (drawn_tenants l.fn.self)) l.fn.self.first grids × (length grids ≡ l.t - l.fn.self.first)
      × (l.height ≡ bottom_of HEAD (rows_of grids));
}

-- the opening, the title, the legend and the bands of the tenants so far are written
abbrev pub invariant-loop-t-2 : goal.invariant-loop-t-2
invariant-loop-t-2 g l = record {
  same : IsSamePicture l.fn.self l.self;
  within : l.t ≤ max l.fn.self.first l.fn.self.end;
  drawn : AppendsText (g.W.Write.contents l.fn.out) (g.W.Write.contents l.out) (λ text. (grids : List Grid) × (legend : List ℕ) × (bands : List ℕ)
      × (length grids ≡ l.t - l.fn.self.first) × AreBands l.fn.self l.history l.fn.self.first HEAD grids bands
      × (bottom_of HEAD (rows_of grids) ≡ l.top)
      × (text ≡ (opening_text l.height ++ (title_text (line_count l.history) (option_copied l.name) (superblocks_of l.history) (2 ^ drawn_order l.history)
      (width_of l.history) ++ legend)) ++ bands));
}
