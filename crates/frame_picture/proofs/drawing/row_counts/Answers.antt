use Rattle.std.proofs.Common.{◌≡◌, ℕ, ◌+◌, ◌-◌, ◌^◌, ◌<◌, ◌≤◌, ◌==◌, List, length, get_or, set, count_by, ap, ◌∙◌, arith}
use Rattle.std.proofs.lemmas.List.Sums.{count_by-le-length}
use Rattle.kernel_core.specs.declared.frames.FrameKind.{FrameKind}
use Rattle.frame_picture.specs.Kinds.{rank_of}
use Rattle.frame_picture.specs.Rows.{row_cells, first_of, end_of, kind_count}
use Rattle.frame_picture.proofs.RowLemmas.{counted}
use Rattle.frame_picture.proofs.drawing.row_counts.Goals as goal

pub returns-clause-kinds : goal.returns-clause-kinds
returns-clause-kinds c = λ k less short.
    let order : ℕ = c.args.grid.order in
    let first : ℕ = first_of c.args.grid c.args.row in
    let end : ℕ = end_of c.args.grid c.args.row in
    let frames : ℕ = end - first in
    let cells : List FrameKind = row_cells order c.args.t first end c.args.column.now.sheets.items in
    let counts : List ℕ = c.count_kinds-shown.result.0 in
    let given : List FrameKind = row_cells order c.args.t c.frames_of-frames.result.start c.frames_of-frames.result.end c.deref.result.now in
    let same : given ≡ cells =
    ap (λ f. row_cells order c.args.t f c.frames_of-frames.result.end c.deref.result.now) c.frames_of-frames.ensures.start
    ∙ ap (λ e. row_cells order c.args.t first e c.deref.result.now) c.frames_of-frames.ensures.end
    ∙ ap (row_cells order c.args.t first end) c.deref.ensures.value in
    let long : length given ≡ length cells = ap length same in
    let few : length given < 2 ^ 64 = omega (arith, short, long) in
    let each : (j : ℕ) → j < 6 → get_or counts j 0 ≡ count_by (λ cell. rank_of cell == j) cells =
    λ k less. c.count_kinds-shown.ensures.kinds k less few ∙ ap (count_by (λ (cell : FrameKind). rank_of cell == k)) same in
    let all : c.count_kinds-shown.result.1 ≡ length cells = c.count_kinds-shown.ensures.all few ∙ long in
    let place : c.rank-not_held.result ≡ 5 = c.rank-not_held.ensures.value in
    let read : get_or counts c.rank-not_held.result 0 ≡ get_or counts 5 0 = ap (λ j. get_or counts j 0) place in
    let five : get_or counts 5 0 ≡ count_by (λ cell. rank_of cell == 5) cells = each 5 (omega arith) in
    let bound : count_by (λ cell. rank_of cell == 5) cells ≤ length cells = count_by-le-length _ cells in
    let rest : c.saturating_sub.result ≡ frames - length cells =
    omega (arith, c.saturating_sub.ensures, c.frames_of-frames.ensures.start, c.frames_of-frames.ensures.end, all) in
    let small : frames < 2 ^ 32 = omega (arith, c.frames_of-frames.ensures.end, c.frames_of-frames.type_inv) in
    let value : c.saturating_add.result ≡ get_or counts 5 0 + (frames - length cells) =
    omega (arith, c.saturating_add.ensures, read, five, bound, rest, short, small) in
    let told : (k : ℕ) → k < 6 → get_or (set counts 5 c.saturating_add.result) k 0 ≡ kind_count cells frames k =
    counted counts cells frames c.saturating_add.result c.count_kinds-shown.ensures.long each value in
    let after : (k : ℕ) → k < 6 → get_or (set counts c.rank-not_held.result c.saturating_add.result) k 0 ≡ kind_count cells frames k =
    λ k less. ap (λ j. get_or (set counts j c.saturating_add.result) k 0) place ∙ told k less in
    after k less
