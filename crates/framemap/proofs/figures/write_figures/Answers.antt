use Rattle.std.proofs.Common.{◌≡◌, ℕ, suc, ◌+◌, ◌++◌, ◌≤◌, List, Some, length, slice_get, take, ap, refl, subst, sym, ◌∙◌, append_assoc, arith}
use Rattle.std.proofs.lemmas.List.{take_all}
use Rattle.std.proofs.lemmas.Option.{slice_get_read}
use Rattle.frame_picture.specs.declared.history.Column.{Column}
use Rattle.frame_picture.specs.Histories.{columns_of, drawn_order}
use Rattle.framemap.specs.Tables.{column_rows, heading_text, rows_of_columns, table_text}
use Rattle.picture_svg.proofs.JoinedTexts.{as_text, flushed, renamed, then_text}
use Rattle.framemap.proofs.TableLemmas.{rows_more}
use Rattle.framemap.proofs.figures.write_figures.Goals as goal

pub loop-at-preserved : goal.loop-at-preserved
loop-at-preserved g c =
    let columns : List Column = columns_of c.args.history.now in
    let orders : ℕ = drawn_order c.args.history.now + 1 in
    let rows = rows_of_columns orders c.args.peaks.now c.args.first c.args.end 0 in
    let at : ℕ = c.loop-at.at in
    let column : Column = c.index-columns-at.result in
    let there : slice_get columns at ≡ Some column =
    subst (λ (xs : List Column). slice_get xs at ≡ Some column) c.columns-columns.ensures.all
    (slice_get_read c.columns-columns.result.now _ at column refl (omega arith) c.index-columns-at.is) in
    as_text (heading_text orders ++ rows (take (at + 1) columns)) (then_text c.loop-at.invariant c.in_ok-write_column.ensures)
    (ap (λ order. (heading_text orders ++ rows (take at columns)) ++ column_rows (order + 1) c.args.peaks.now c.args.first c.args.end at column)
    c.order.ensures.value
    ∙ append_assoc (heading_text orders) (rows (take at columns)) (column_rows orders c.args.peaks.now c.args.first c.args.end at column)
    ∙ ap (λ n. heading_text orders ++ (rows (take at columns) ++ column_rows orders c.args.peaks.now c.args.first c.args.end n column))
    (let e : at ≡ 0 + at = omega arith in e)
    ∙ ap (λ t. heading_text orders ++ t) (sym (rows_more orders c.args.peaks.now c.args.first c.args.end 0 at columns column there))
    ∙ ap (λ n. heading_text orders ++ rows (take n columns)) (let e : suc at ≡ at + 1 = omega arith in e))

pub returns : goal.returns
unfolding table_text
returns g c =
    let columns : List Column = columns_of c.args.history.now in
    let orders : ℕ = drawn_order c.args.history.now + 1 in
    let rows = rows_of_columns orders c.args.peaks.now c.args.first c.args.end 0 in
    let shown : length c.columns-columns.result.now ≡ length columns = ap length c.columns-columns.ensures.all in
    let all : length columns ≤ c.loop-at.at = omega (arith, shown) in
    flushed (g.W.Write.contents c.flush.new.self) c.flush.result
    (renamed (table_text c.args.history.now c.args.peaks.now c.args.first c.args.end)
    (ap (λ (xs : List Column). heading_text orders ++ rows xs) (take_all c.loop-at.at columns all))
    c.loop-at.invariant) c.flush.ensures.bytes
