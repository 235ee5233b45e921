use Rattle.std.proofs.Common.{◌≡◌, ℕ, ◌+◌, ◌^◌, ◌<◌, ◌==◌, length, take, get_or, count_by}
use Rattle.frame_picture.specs.Kinds.{rank_of}
use Rattle.frame_picture.specs.Rows.{row_cells}
use Rattle.frame_picture.proofs.drawing.count_kinds.Given as goal

-- Let tenant t have fewer than 2 ^ 64 cells from `first` to `end` - 1 in the sheets so far. `counts` has the numbers of these
-- cells by kind, and `shown` is the number of all of them.
abbrev pub invariant-loop-sheet : goal.invariant-loop-sheet
invariant-loop-sheet l = record {
  long : length l.counts ≡ 6;
  kinds : (k : ℕ) → k < 6 → length (row_cells l.order l.t l.first l.end (take (l.own.rest + l.sheet-index) l.sheets)) < 2 ^ 64
      → get_or l.counts k 0 ≡ count_by (λ cell. rank_of cell == k) (row_cells l.order l.t l.first l.end (take (l.own.rest + l.sheet-index) l.sheets));
  all : length (row_cells l.order l.t l.first l.end (take (l.own.rest + l.sheet-index) l.sheets)) < 2 ^ 64
      → l.shown ≡ length (row_cells l.order l.t l.first l.end (take (l.own.rest + l.sheet-index) l.sheets));
}
