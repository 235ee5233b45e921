use Rattle.std.proofs.Common.{◌≡◌, ◌+◌, length, take, sym, ap, arith}
use Rattle.std.proofs.lemmas.List.{length-take-le}
use Rattle.words_core.specs.Requests.{reply_of_table}
use Rattle.words_core.specs.Texts.{lines_of, text_of}
use Rattle.replay_core.proofs.PushLemmas.{row_next}
use Rattle.partmem_c.proofs.TextLemmas.{written_more}
use Rattle.partmem_c.proofs.lines.put_table.Goals as goal

pub loop-row-preserved : goal.loop-row-preserved
loop-row-preserved c =
    let len = c.write_row-len.result in
    let line = take len c.write_row-len.new.out in
    let counted : length line ≡ len = length-take-le len c.write_row-len.new.out (omega (arith, c.write_row-len.ensures.short, c.write_row-len.auto.out)) in (
      written_more (text_of (reply_of_table c.args.table)) _ line _ c.args.buffer.now c.loop-row.buffer c.put.new.buffer _ _ c.loop-row.invariant.0
          (row_next (lines_of (reply_of_table c.args.table)) c.loop-row.row _ c.write_row-len.ensures.text)
          c.put.ensures (ap (λ n. c.loop-row.written + n) (sym counted)),
      omega (arith, c.loop-row.invariant.1, c.write_row-len.ensures.short),
    )
