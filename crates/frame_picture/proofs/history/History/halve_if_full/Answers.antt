use Rattle.std.proofs.Common.{◌≡◌, ℕ, ◌+◌, ◌*◌, ◌%◌, ◌^◌, ◌<◌, length, subst, arith}
use Rattle.frame_picture.specs.Histories.{columns_of, width_of, line_count}
use Rattle.frame_picture.proofs.ColumnLines.{halves, moved, next_multiple}
use Rattle.frame_picture.proofs.history.History.halve_if_full.Goals as goal

pub returns-then-self-len-clause-even : goal.returns-then-self-len-clause-even
returns-then-self-len-clause-even c = λ next small even.
    let width : ℕ = width_of c.args.self.now in
    let count : ℕ = length (columns_of c.args.self.now) in
    let due : (line_count c.args.self.now + 1) % width ≡ 0 = subst (λ x. x % width ≡ 0) next c.if-line-self-eq0.true in
    let at : line_count c.args.self.now + 1 ≡ (count + 1) * width = next_multiple count width _ even.some even.all due in
    let fits : width < 2 ^ 31 = omega (arith, at, next, small) in
    moved _ _ _ _ _ (omega (arith, c.halve.ensures.width, fits)) c.halve.ensures.lines
    (halves _ _ _ even due (columns_of c.halve.new.self) c.halve.ensures.half c.halve.ensures.second)
