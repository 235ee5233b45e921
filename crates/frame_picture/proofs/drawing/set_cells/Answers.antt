use Rattle.std.proofs.Common.{◌≡◌, ℕ, ◌<◌, List, Some, slice_get, slice_index_or, refl, subst, sym, ◌∙◌, arith}
use Rattle.std.proofs.lemmas.Option.{slice_get_within, slice_get_read}
use Rattle.frame_picture.specs.declared.drawing.Tone.{Tone}
use Rattle.frame_picture.specs.declared.history.Column.{Column}
use Rattle.frame_picture.proofs.ListFilled.{more_filled}
use Rattle.frame_picture.specs.Tones.{not_held, IsRowTone}
use Rattle.frame_picture.proofs.drawing.set_cells.Goals as goal

pub loop-at-preserved : goal.loop-at-preserved
loop-at-preserved c = λ i row column rows less there here few shown.
    more_filled
    (λ (k : ℕ) (x : List Tone). (r : ℕ) (y : Column) → slice_get c.args.columns.now k ≡ Some y → r < 256 → r < c.args.grid.rows
    → IsRowTone y c.args.t c.args.grid r (slice_index_or x r not_held))
    c.loop-at.cells c.loop-at.at c.set_rows.new.rows (omega arith)
    (λ k x below at r y of few' shown'. c.loop-at.invariant k r y x below of at few' shown')
    (λ r y of few' shown'.
    let read : slice_get c.args.columns.now c.loop-at.at ≡ Some c.index-columns-at.result =
    slice_get_read c.args.columns.now _ c.loop-at.at c.index-columns-at.result refl (omega arith) c.index-columns-at.is in
    let both : Some c.index-columns-at.result ≡ Some y = sym read ∙ of in
    let same : c.index-columns-at.result ≡ y = cc both in
    subst (λ z. IsRowTone z c.args.t c.args.grid r (slice_index_or c.set_rows.new.rows r not_held)) same (c.set_rows.ensures r few' shown'))
    i rows less here row column there few shown

pub returns : goal.returns
returns c = λ at row column rows there here few shown.
    c.loop-at.invariant at row column rows
    (omega (arith, slice_get_within c.args.columns.now at column there, slice_get_within c.loop-at.cells at rows here, c.min-at-end.ensures))
    there here few shown
