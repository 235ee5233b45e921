use Rattle.std.proofs.Common.{◌≡◌, ℕ, ◌+◌, length, subst, sym, arith}
use Rattle.frame_picture.specs.Bounds.{IsGreatest}
use Rattle.frame_picture.specs.Stacks.{free_in_column}
use Rattle.frame_picture.proofs.Greatest.{IsValue, values_none, values_more}
use Rattle.frame_picture.proofs.stacks.most_free.Goals as goal

pub loop-column-init : goal.loop-column-init
loop-column-init c = values_none (free_in_column c.args.columns.now c.args.t 0) 1

pub loop-column-preserved : goal.loop-column-preserved
loop-column-preserved c =
    let free : ℕ → ℕ = free_in_column c.args.columns.now c.args.t 0 in
    subst (IsGreatest (IsValue free (c.loop-column.column + 1)) 1) (sym c.max-most.ensures)
    (values_more free c.loop-column.column 1 c.loop-column.most c.free_at.result c.free_at.ensures c.loop-column.invariant)

pub returns : goal.returns
returns c =
    let all : c.loop-column.column ≡ length c.args.columns.now = omega arith in
    subst (λ n. IsGreatest (IsValue (free_in_column c.args.columns.now c.args.t 0) n) 1 c.loop-column.most) all c.loop-column.invariant
