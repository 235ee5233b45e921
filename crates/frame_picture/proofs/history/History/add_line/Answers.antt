use Rattle.std.proofs.Common.{◌≡◌, ℕ, ◌+◌, ◌%◌, ◌^◌, ◌≤◌, ap, refl, subst, sym, ◌∙◌, arith, ◌⊎◌, inl, inr, Some, slice_get}
use Rattle.frame_picture.specs.declared.history.Column.{Column}
use Rattle.frame_picture.specs.Columns.{IsColumnAfter}
use Rattle.frame_picture.specs.Histories.{columns_of, width_of, line_count, refusals_of, most_columns_of}
use Rattle.frame_picture.proofs.ColumnLines.{waits, keeps, moved}
use Rattle.frame_picture.proofs.ListFilled.{old_or_new}
use Rattle.frame_picture.proofs.history.History.add_line.Goals as goal

pub returns-then-line-self-eq0-clause-even : goal.returns-then-line-self-eq0-clause-even
returns-then-line-self-eq0-clause-even c = λ small even.
    let line : ℕ = c.saturating_add-line.result in
    let next : line ≡ line_count c.args.self.now + 1 = omega (arith, c.saturating_add-line.ensures, small) in
    let fits : line ≤ 2 ^ 30 = omega arith in
    let more : line ≡ line_count c.halve_if_full.new.self + 1 = next ∙ ap (λ x. x + 1) (sym c.halve_if_full.ensures.lines) in
    let width : ℕ = width_of c.halve_if_full.new.self in
    let due : (line_count c.halve_if_full.new.self + 1) % width ≡ 0 = subst (λ x. x % width ≡ 0) more c.if-line-self-eq0.true in
    let vacant = c.halve_if_full.ensures.due next even fits c.if-line-self-eq0.true in
    moved _ _ _ _ _ c.keep.ensures.width (c.keep.ensures.lines ∙ more)
    (keeps _ _ _ (c.halve_if_full.ensures.even next fits even) due (columns_of c.keep.new.self) (c.keep.ensures.one vacant) c.keep.ensures.before
    (λ column there. (c.keep.ensures.last column vacant there).line ∙ more))

pub returns-then-line-self-eq0-clause-shown : goal.returns-then-line-self-eq0-clause-shown
returns-then-line-self-eq0-clause-shown c = λ i column there.
    told column
    (old_or_new (IsColumnAfter c.args.kernel.now c.saturating_add-line.result (refusals_of c.halve_if_full.new.self)) (columns_of c.halve_if_full.new.self) (columns_of c.keep.new.self)
    (most_columns_of c.halve_if_full.new.self) c.keep.ensures.one c.keep.ensures.none c.keep.ensures.before
    (λ x free at. c.keep.ensures.last x free at) i column there)
  where
    told : (column : Column)
        → ((k : ℕ) × (slice_get (columns_of c.halve_if_full.new.self) k ≡ Some column)) ⊎ IsColumnAfter c.args.kernel.now c.saturating_add-line.result (refusals_of c.halve_if_full.new.self) column
        → ((k : ℕ) × (slice_get (columns_of c.args.self.now) k ≡ Some column)) ⊎ IsColumnAfter c.args.kernel.now (line_count c.keep.new.self) (refusals_of c.keep.new.self) column
    told column (inl old) = inl (c.halve_if_full.ensures.shown old.0 column old.1)
    told column (inr new) = inr (subst (λ lines. IsColumnAfter c.args.kernel.now lines (refusals_of c.keep.new.self) column) (sym c.keep.ensures.lines)
        (subst (λ refused. IsColumnAfter c.args.kernel.now c.saturating_add-line.result refused column) (sym c.keep.ensures.refused) new))

pub returns-else-line-self-eq0-clause-even : goal.returns-else-line-self-eq0-clause-even
returns-else-line-self-eq0-clause-even c = λ small even.
    let line : ℕ = c.saturating_add-line.result in
    let next : line ≡ line_count c.args.self.now + 1 = omega (arith, c.saturating_add-line.ensures, small) in
    let fits : line ≤ 2 ^ 30 = omega arith in
    let more : line ≡ line_count c.halve_if_full.new.self + 1 = next ∙ ap (λ x. x + 1) (sym c.halve_if_full.ensures.lines) in
    let width : ℕ = width_of c.halve_if_full.new.self in
    moved _ _ _ _ _ refl more
    (waits _ _ _ (c.halve_if_full.ensures.even next fits even)
    (λ due. c.if-line-self-eq0.false (subst (λ x. x % width ≡ 0) (sym more) due)))
