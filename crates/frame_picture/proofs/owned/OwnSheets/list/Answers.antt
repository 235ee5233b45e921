use Rattle.std.proofs.Common.{ℕ, ◌<◌, ◌++◌, refl, length, ap, sym, ◌∙◌, arith}
use Rattle.frame_picture.proofs.RowLemmas.{row_cells_more}
use Rattle.std.proofs.Math.ListN.{length-set}
use Rattle.frame_picture.specs.Rows.{cells_in}
use Rattle.frame_picture.proofs.OwnedLemmas.{passed_more, listed_set, listed_inside}
use Rattle.frame_picture.proofs.owned.OwnSheets.list.Goals as goal

pub sheets-preserved : goal.sheets-preserved
sheets-preserved c =
    let here = c.sheets in
    let sheets = c.args.sheets.now in
    let before = c.sheets.invariant in
    let within : here.rest < length sheets = omega (arith, c.sheets-test.true, c.min-most.ensures) in
    elim c.if-is_of.branch [
      | goal.then-is_of w ↦ rw w.self-is (rw w.len-is (record {
        long = length-set {A = ℕ} here.self.listed here.len here.rest ∙ before.long;
        rest = omega (arith, c.sheets-test.true);
        few = omega (arith, c.if-len-lt-MAX_LISTED.true);
        inside = λ j less. listed_inside here.self.listed here.len here.rest (length sheets) (omega (arith, c.if-len-lt-MAX_LISTED.true, before.long)) within before.inside j less;
        cells = λ order first end.
            row_cells_more order c.args.t first end sheets here.rest c.index-sheets-rest.result within c.index-sheets-rest.is
            ∙ ap (λ xs. xs ++ cells_in order c.args.t first end c.index-sheets-rest.result) (before.cells order first end)
            ∙ sym (listed_set order c.args.t first end sheets here.self.listed here.len here.rest c.index-sheets-rest.result
            (omega (arith, c.if-len-lt-MAX_LISTED.true, before.long)) within c.index-sheets-rest.is);
      }))
      | goal.else-is_of w ↦ rw w.self-is (rw w.len-is (record {
        long = before.long;
        rest = omega (arith, c.sheets-test.true);
        few = before.few;
        inside = before.inside;
        cells = λ order first end.
            passed_more order c.args.t first end sheets here.rest c.index-sheets-rest.result within c.index-sheets-rest.is (w.if-is_of.ensures refl order first end)
            ∙ before.cells order first end;
      }))
    ]
