use Rattle.std.proofs.Common.{rules, ◌≡◌, List, Some, slice_get, subst}
use Rattle.std.proofs.lemmas.List.{with_items_is, places}
use Rattle.std.specs.Vec.{with_items}
use Rattle.frame_picture.specs.declared.history.Figures.{Figures}
use Rattle.frame_picture.specs.declared.history.Sheet.{Sheet}
use Rattle.frame_picture.proofs.history.Column.show_world.Goals as goal

pub returns-clause-shows : goal.returns-clause-shows
returns-clause-shows c = λ w shown.
    let sheets : (with_items c.args.self.now.sheets c.show_sheets.new.sheets).items ≡ c.show_sheets.new.sheets =
    with_items_is c.args.self.now.sheets c.show_sheets.new.sheets (search (rules, places)) in
    let figures : (with_items c.args.self.now.figures c.show_figures.new.figures).items ≡ c.show_figures.new.figures =
    with_items_is c.args.self.now.figures c.show_figures.new.figures (search (rules, places)) in
    record {
      owners = λ s sheet there. c.show_sheets.ensures.owners w s sheet shown (subst (λ (xs : List Sheet). slice_get xs s ≡ Some sheet) sheets there);
      cells = λ s sheet there. c.show_sheets.ensures.cells w s sheet shown (subst (λ (xs : List Sheet). slice_get xs s ≡ Some sheet) sheets there);
      figures = λ t own m there is.
          c.show_figures.ensures w m t own shown is (subst (λ (xs : List Figures). slice_get xs t ≡ Some own) figures there);
    }
