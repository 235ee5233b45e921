use Rattle.std.proofs.Common.{◌≤◌, List, length, subst, ◌∙◌, arith}
use Rattle.frame_picture.specs.Histories.{line_count, most_columns_of}
use Rattle.frame_picture.specs.declared.history.Column.{Column}
use Rattle.framemap.specs.Peaks.{HaveEnded, HaveWidened}
use Rattle.framemap.proofs.PeakColumns.{line_added}
use Rattle.framemap.proofs.peaks.Peaks.add_line.Goals as goal

pub returns-clause-most : goal.returns-clause-most
returns-clause-most c = λ taken small even next keep t peak there.
    line_added taken c.args.history.now c.add_line.new.self c.args.self.now c.note.new.self c.widen.new.self c.end_column.new.self
    small (c.add_line.ensures.counted (omega (arith, small))) c.add_line.ensures.sizes.most_columns
    (subst (λ (xs : List Column). length xs ≤ most_columns_of c.add_line.new.self) c.columns.ensures.all c.columns.ensures.fit)
    even (c.add_line.ensures.even small even) c.add_line.ensures.full
    (c.end_column.ensures.tenants ∙ c.widen.ensures.tenants ∙ c.note.ensures.tenants) c.note.ensures.width c.note.ensures.ended
    (c.note.ensures.each taken (line_count c.args.history.now) next)
    (subst (λ w. HaveWidened w c.note.new.self c.widen.new.self) c.width.ensures.value c.widen.ensures)
    (subst (λ (xs : List Column). HaveEnded (length xs) c.widen.new.self c.end_column.new.self) c.columns.ensures.all c.end_column.ensures)
    keep t peak there
