use Rattle.std.proofs.Common.{◌≡◌, ℕ, ◌-◌, List, slice_index, ap, ◌∙◌, arith}
use Rattle.kernel_core.specs.declared.frames.FrameKind.{FrameKind}
use Rattle.frame_picture.specs.Kinds.{rank_of}
use Rattle.frame_picture.specs.Rows.{row_cells, first_of, end_of, kind_count}
use Rattle.frame_picture.specs.Tones.{taken_cells, quarters_of}
use Rattle.frame_picture.proofs.RowLemmas.{drawn_along, taken_along}
use Rattle.frame_picture.proofs.drawing.row_tone.Goals as goal

pub returns : goal.returns
returns c = λ _.
    let cells : List FrameKind = row_cells c.args.grid.order c.args.t (first_of c.args.grid c.args.row) (end_of c.args.grid c.args.row)
    c.args.column.now.sheets.items in
    let frames : ℕ = end_of c.args.grid c.args.row - first_of c.args.grid c.args.row in
    let count : ℕ → ℕ = slice_index c.row_counts-counts.result in
    let known : ℕ → ℕ = kind_count cells frames in
    let same : c.frames_of-frames.result.end - c.frames_of-frames.result.start ≡ frames =
    omega (arith, c.frames_of-frames.ensures.start, c.frames_of-frames.ensures.end) in
    record {
      most = λ short. drawn_along count known (rank_of c.tone_of.result.kind) (λ k less. c.row_counts-counts.ensures.kinds k less short)
          c.tone_of.ensures.most;
      share = λ short. c.tone_of.ensures.share
          ∙ ap (λ taken. quarters_of taken (c.frames_of-frames.result.end - c.frames_of-frames.result.start))
          (taken_along count known (λ k less. c.row_counts-counts.ensures.kinds k less short))
          ∙ ap (quarters_of (taken_cells known)) same;
    }
