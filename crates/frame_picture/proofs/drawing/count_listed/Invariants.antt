use Rattle.std.proofs.Common.{◌≡◌, ℕ, ◌^◌, ◌<◌, ◌==◌, length, take, get_or, count_by}
use Rattle.frame_picture.specs.Kinds.{rank_of}
use Rattle.frame_picture.specs.Owned.{listed_cells}
use Rattle.frame_picture.proofs.drawing.count_listed.Given as goal

-- Let tenant t have fewer than 2 ^ 64 cells from `first` to `end` - 1 in the listed sheets so far. `counts` has the numbers of
-- these cells by kind, and `shown` is the number of all of them.
abbrev pub invariant-loop-j : goal.invariant-loop-j
invariant-loop-j l = record {
  long : length l.counts ≡ 6;
  kinds : (k : ℕ) → k < 6 → length (listed_cells l.order l.t l.first l.end l.sheets (take l.j l.own.listed)) < 2 ^ 64
      → get_or l.counts k 0 ≡ count_by (λ cell. rank_of cell == k) (listed_cells l.order l.t l.first l.end l.sheets (take l.j l.own.listed));
  all : length (listed_cells l.order l.t l.first l.end l.sheets (take l.j l.own.listed)) < 2 ^ 64
      → l.shown ≡ length (listed_cells l.order l.t l.first l.end l.sheets (take l.j l.own.listed));
}
