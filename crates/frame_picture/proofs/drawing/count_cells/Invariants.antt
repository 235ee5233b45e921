use Rattle.std.proofs.Common.{◌≡◌, ℕ, ◌+◌, ◌^◌, ◌<◌, ◌==◌, length, take, get_or, count_by}
use Rattle.frame_picture.specs.Kinds.{rank_of}
use Rattle.frame_picture.proofs.drawing.count_cells.Given as goal

-- if the count of a kind cannot overflow, it has grown by the number of cells of this kind so far
abbrev pub invariant-loop-cell : goal.invariant-loop-cell
invariant-loop-cell l = (k : ℕ) → k < 6 → get_or l.initial.counts k 0 + length l.cells < 2 ^ 64
    → get_or l.counts k 0 ≡ get_or l.initial.counts k 0 + count_by (λ cell. rank_of cell == k) (take l.cell-index l.cells)
