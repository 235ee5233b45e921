use Rattle.std.proofs.Common.{◌≤◌, List, length, subst, ◌∙◌}
use Rattle.frame_picture.specs.Histories.{most_columns_of}
use Rattle.frame_picture.specs.declared.history.Column.{Column}
use Rattle.framemap.specs.Peaks.{HaveEnded, HaveWidened}
use Rattle.framemap.proofs.PeakColumns.{history_ended}
use Rattle.framemap.proofs.peaks.Peaks.end.Goals as goal

pub returns-clause-most : goal.returns-clause-most
returns-clause-most c = λ taken some small even keep t i peak there less.
    history_ended taken c.args.history.now c.end.new.self c.args.self.now c.widen.new.self c.end_column.new.self
    some small c.end.ensures.lines c.end.ensures.sizes.most_columns
    (subst (λ (xs : List Column). length xs ≤ most_columns_of c.end.new.self) c.columns.ensures.all c.columns.ensures.fit)
    even (c.end.ensures.complete some small even) c.end.ensures.full
    (c.end_column.ensures.tenants ∙ c.widen.ensures.tenants)
    (subst (λ w. HaveWidened w c.args.self.now c.widen.new.self) c.width.ensures.value c.widen.ensures)
    (subst (λ (xs : List Column). HaveEnded (length xs) c.widen.new.self c.end_column.new.self) c.columns.ensures.all c.end_column.ensures)
    keep t i peak there less
