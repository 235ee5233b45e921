use Rattle.std.proofs.Common.{◌≡◌, ℕ, ◌+◌, ◌*◌, ◌<◌, ◌≤◌, ◌⊎◌, inl, inr, Some, length, slice_get, subst, sym, ◌∙◌, arith, length-take}
use Rattle.std.proofs.Math.Nat.{mul-le-mul_right}
use Rattle.std.proofs.lemmas.Option.{slice_get_within}
use Rattle.frame_picture.specs.declared.history.Column.{Column}
use Rattle.frame_picture.specs.declared.history.History.{History}
use Rattle.frame_picture.specs.Columns.{IsColumnAfter}
use Rattle.frame_picture.specs.Histories.{columns_of, most_columns_of, width_of, line_count, refusals_of}
use Rattle.frame_picture.proofs.ColumnLines.{ends_even, ends_after, ends_halved, completed}
use Rattle.frame_picture.proofs.ListFilled.{old_or_new}
use Rattle.frame_picture.proofs.history.History.end.Goals as goal
use Rattle.frame_picture.proofs.history.History.end.Goals.{then-self-len, else-self-len}

pub returns-then-self-eq0-clause-complete : goal.returns-then-self-eq0-clause-complete
returns-then-self-eq0-clause-complete c = λ some small even. ends_even _ _ _ even c.if-self-eq0.true

pub returns-clause-complete : goal.returns-clause-complete
returns-clause-complete c = λ some small even.
    let old : History = c.args.self.now in
    let new : History = c.keep.new.self in
    let count : length (columns_of old) ≤ most_columns_of old = omega (arith, length-take old.kept old.columns.items, old.columns.ok.0) in
    elim c.if-self-len.branch [
      | then-self-len w ↦
          let mid : History = w.halve.new.self in
          let one = rw w.self-is at c.keep.ensures.one in
          let before = rw w.self-is at c.keep.ensures.before in
          let last = rw w.self-is at c.keep.ensures.last in
          let width : width_of new ≡ width_of mid = rw w.self-is at c.keep.ensures.width in
          let lines : line_count new ≡ line_count mid = rw w.self-is at c.keep.ensures.lines in
          let full : 1 ≤ length (columns_of old) = omega (arith, length-take old.kept old.columns.items, old.columns.ok.0, c.len.ensures, w.if-self-len.true) in
          let least : 1 * width_of old ≤ length (columns_of old) * width_of old = mul-le-mul_right (width_of old) full in
          let vacant : length (columns_of mid) < most_columns_of mid = omega (arith, w.halve.ensures.half, w.halve.ensures.sizes.most_columns, count, some) in
          completed _ _ _ _ _ (omega (arith, width, w.halve.ensures.width, least, even.some, small)) (lines ∙ w.halve.ensures.lines)
          (ends_halved _ _ _ even c.if-self-eq0.false (columns_of mid) (columns_of new) w.halve.ensures.half w.halve.ensures.second (one vacant) before
          (λ column there. (last column vacant there).line ∙ w.halve.ensures.lines))
      | else-self-len w ↦
          let one = rw w.self-is at c.keep.ensures.one in
          let before = rw w.self-is at c.keep.ensures.before in
          let last = rw w.self-is at c.keep.ensures.last in
          let width : width_of new ≡ width_of old = rw w.self-is at c.keep.ensures.width in
          let lines : line_count new ≡ line_count old = rw w.self-is at c.keep.ensures.lines in
          let vacant : length (columns_of old) < most_columns_of old =
          omega (arith, length-take old.kept old.columns.items, old.columns.ok.0, c.len.ensures, w.if-self-len.false) in
          completed _ _ _ _ _ width lines
          (ends_after _ _ _ even c.if-self-eq0.false (columns_of new) (one vacant) before (λ column there. (last column vacant there).line))
    ]

pub returns-clause-shown : goal.returns-clause-shown
returns-clause-shown c = λ i column there.
    told column
    (old_or_new (IsColumnAfter c.args.kernel.now (line_count c.if-self-len.self) (refusals_of c.if-self-len.self)) (columns_of c.if-self-len.self)
    (columns_of c.keep.new.self) (most_columns_of c.if-self-len.self) c.keep.ensures.one c.keep.ensures.none c.keep.ensures.before
    (λ x free at. c.keep.ensures.last x free at) i column there)
  where
    earlier : (column : Column) → (k : ℕ) × (slice_get (columns_of c.if-self-len.self) k ≡ Some column)
        → (k : ℕ) × (slice_get (columns_of c.args.self.now) k ≡ Some column)
    earlier column here = elim c.if-self-len.branch [
      | then-self-len w ↦
          let at : slice_get (columns_of w.halve.new.self) here.0 ≡ Some column =
          subst (λ (h : History). slice_get (columns_of h) here.0 ≡ Some column) w.self-is here.1 in
          (2 * here.0 + 1, sym (w.halve.ensures.second here.0 (slice_get_within (columns_of w.halve.new.self) here.0 column at)) ∙ at)
      | else-self-len w ↦ (here.0, subst (λ (h : History). slice_get (columns_of h) here.0 ≡ Some column) w.self-is here.1)
    ]

    told : (column : Column)
        → ((k : ℕ) × (slice_get (columns_of c.if-self-len.self) k ≡ Some column)) ⊎ IsColumnAfter c.args.kernel.now (line_count c.if-self-len.self) (refusals_of c.if-self-len.self) column
        → ((k : ℕ) × (slice_get (columns_of c.args.self.now) k ≡ Some column)) ⊎ IsColumnAfter c.args.kernel.now (line_count c.keep.new.self) (refusals_of c.keep.new.self) column
    told column (inl old) = inl (earlier column old)
    told column (inr new) = inr (subst (λ lines. IsColumnAfter c.args.kernel.now lines (refusals_of c.keep.new.self) column) (sym c.keep.ensures.lines)
        (subst (λ refused. IsColumnAfter c.args.kernel.now (line_count c.if-self-len.self) refused column) (sym c.keep.ensures.refused) new))
