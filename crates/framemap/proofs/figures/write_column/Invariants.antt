use Rattle.std.proofs.Common.{◌≡◌, ◌-◌, ◌≤◌, flat_map, max}
use Rattle.std.specs.List.{range_with_len}
use Rattle.picture_svg.specs.Texts.{AppendsText}
use Rattle.framemap.specs.Peaks.{most_in_column}
use Rattle.framemap.specs.Tables.{row_text}
use Rattle.framemap.proofs.figures.write_column.Given as goal

-- the rows of the tenants so far are written
abbrev pub invariant-loop-t : goal.invariant-loop-t
invariant-loop-t g l = record {
  within : l.t ≤ max l.first l.end;
  drawn : AppendsText (g.W.Write.contents l.fn.out) (g.W.Write.contents l.out)
      (λ text. text ≡ flat_map (λ t. row_text l.orders l.column (most_in_column l.peaks t l.at) t) (range_with_len l.first (l.t - l.first)));
}
