use Rattle.std.proofs.Common.{◌≤◌, ◌∙◌, ap, length, take, arith}
use Rattle.std.proofs.lemmas.List.{length-take-le}
use Rattle.words_core.specs.Requests.{reply_of_table}
use Rattle.words_core.specs.Texts.{lines_of}
use Rattle.world_core.specs.Output.{is_shown}
use Rattle.replay_core.proofs.PushLemmas.{row_next, pushed_into, pushed_part, pushed_few, shown_whole}
use Rattle.replay_core.proofs.replies.Replies.show_table.Goals as goal

pub returns-in_err-push_all : goal.returns-in_err-push_all
returns-in_err-push_all g c =
    let line = take c.write_row-len.result c.write_row-len.new.out in
    let short : length line ≤ 256 = omega (arith, c.write_row-len.ensures.short, c.write_row-len.auto.out, length-take-le c.write_row-len.result c.write_row-len.new.out (omega (arith, c.write_row-len.ensures.short, c.write_row-len.auto.out))) in record {
      pushed = rw (shown_whole c.args.self.now.only (reply_of_table c.args.table) _ (c.is_shown.ensures ∙ ap (is_shown c.args.self.now.only) c.addressee.ensures) c.if-not-is_shown.false) (
          pushed_into _ _ _ _ _ _ line _ _ _ _ c.in_err-push_all.field-0.0 c.from_residual.result c.from_residual.ensures.0 c.loop-row.invariant.0
          (row_next (lines_of (reply_of_table c.args.table)) c.loop-row.row _ c.write_row-len.ensures.text)
          c.in_err-push_all.ensures
          );
      few = omega (arith, c.loop-row.invariant.1, short, pushed_few _ _ _ line _ _ _ c.push_all.ensures);
      same = c.loop-row.invariant.3;
    }

pub loop-row-preserved : goal.loop-row-preserved
loop-row-preserved g c =
    let line = take c.write_row-len.result c.write_row-len.new.out in
    let short : length line ≤ 256 = omega (arith, c.write_row-len.ensures.short, c.write_row-len.auto.out, length-take-le c.write_row-len.result c.write_row-len.new.out (omega (arith, c.write_row-len.ensures.short, c.write_row-len.auto.out))) in
    let next = row_next (lines_of (reply_of_table c.args.table)) c.loop-row.row _ c.write_row-len.ensures.text in (
      pushed_part _ _ _ _ _ _ line _ _ _ _ c.loop-row.invariant.0 next c.in_ok-push_all.ensures,
      omega (arith, c.loop-row.invariant.1, short, pushed_few _ _ _ line _ _ _ c.push_all.ensures),
      c.in_ok-push_all.ensures.failed,
      c.loop-row.invariant.3,
    )
