use Rattle.std.proofs.Common.{◌≡◌, ℕ, ◌+◌, ap, length, subst, sym, arith}
use Rattle.frame_picture.specs.declared.history.Figures.{Figures}
use Rattle.frame_picture.specs.Bounds.{IsGreatest}
use Rattle.frame_picture.specs.Stacks.{taken_in_column}
use Rattle.frame_picture.proofs.Greatest.{IsValue, values_none, values_more}
use Rattle.frame_picture.proofs.stacks.most_taken.Goals as goal

pub loop-column-init : goal.loop-column-init
loop-column-init c = values_none (taken_in_column c.args.columns.now c.args.t) 0

pub loop-column-preserved : goal.loop-column-preserved
loop-column-preserved c =
    let taken : ℕ → ℕ = taken_in_column c.args.columns.now c.args.t in
    subst (IsGreatest (IsValue taken (c.loop-column.column + 1)) 0) (sym c.max-most.ensures)
    (values_more taken c.loop-column.column 0 c.loop-column.most c.figures_at.result.taken
    (ap (λ (figures : Figures). figures.taken) c.figures_at.ensures) c.loop-column.invariant)

pub returns : goal.returns
returns c =
    let all : c.loop-column.column ≡ length c.args.columns.now = omega arith in
    subst (λ n. IsGreatest (IsValue (taken_in_column c.args.columns.now c.args.t) n) 0 c.loop-column.most) all c.loop-column.invariant
