use Rattle.std.proofs.Common.{ℕ, ◌<◌, ◌∙◌, arith}
use Rattle.std.proofs.Math.ListN.{length-set}
use Rattle.frame_picture.specs.declared.drawing.Tone.{Tone}
use Rattle.frame_picture.specs.Tones.{not_held, IsRowTone}
use Rattle.frame_picture.proofs.drawing.set_rows.Goals as goal
use Rattle.frame_picture.proofs.ListFilled.{more_set}

pub loop-row-preserved : goal.loop-row-preserved
loop-row-preserved c = record {
  long = length-set c.loop-row.rows c.loop-row.row c.row_tone.result ∙ c.loop-row.invariant.long;
  told =
      more_set not_held (λ (k : ℕ) (kind : Tone). k < c.args.grid.rows → IsRowTone c.args.column.now c.args.t c.args.grid k kind) c.loop-row.rows
      c.loop-row.row c.row_tone.result (omega (arith, c.loop-row.invariant.long)) c.loop-row.invariant.told c.row_tone.ensures;
}
