use Rattle.std.proofs.Common.{rules, ◌^◌, ◌<◌, ◌≤◌, refl, arith}
use Rattle.std.specs.Int.{div_ceil}
use Rattle.frame_picture.proofs.PowerLemmas.{first_power, no_power}
use Rattle.frame_picture.proofs.grid.frames_per_row.Goals as goal

pub returns-then-rows_up_to-most_rows-clause-least : goal.returns-then-rows_up_to-most_rows-clause-least
returns-then-rows_up_to-most_rows-clause-least c =
    first_power (λ size. div_ceil c.args.frames size ≤ c.args.most_rows) _ c.loop-power.power _ (omega arith) refl
    (search rules)
    (λ k below enough. let many : c.args.most_rows < div_ceil c.args.frames (2 ^ k) = c.loop-power.invariant k below in omega arith)

pub returns-clause-least : goal.returns-clause-least
returns-clause-least c =
    no_power (λ size. div_ceil c.args.frames size ≤ c.args.most_rows) _ _ c.max.ensures
    (λ k small enough. let many : c.args.most_rows < div_ceil c.args.frames (2 ^ k) = c.loop-power.invariant k (omega arith) in omega arith)
