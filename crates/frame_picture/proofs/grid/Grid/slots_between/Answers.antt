use Rattle.std.proofs.Common.{rules, ◌*◌, ◌^◌, ◌<◌, ◌≤◌, refl, arith}
use Rattle.frame_picture.proofs.PowerLemmas.{first_power, no_power}
use Rattle.frame_picture.proofs.grid.Grid.slots_between.Goals as goal

pub returns-then-from-self-clause-least : goal.returns-then-from-self-clause-least
returns-then-from-self-clause-least c =
    first_power (λ slots. c.args.self.frames ≤ c.args.most_marks * (slots * 2 ^ c.args.self.order)) _ c.loop-power.power _ (omega arith) refl
    (search rules)
    (λ j below enough.
    let few : c.args.most_marks * (2 ^ j * 2 ^ c.args.self.order) < c.args.self.frames = c.loop-power.invariant j below in omega arith)

pub returns-clause-least : goal.returns-clause-least
returns-clause-least c =
    no_power (λ slots. c.args.self.frames ≤ c.args.most_marks * (slots * 2 ^ c.args.self.order)) _ _ c.max.ensures
    (λ j small enough.
    let few : c.args.most_marks * (2 ^ j * 2 ^ c.args.self.order) < c.args.self.frames = c.loop-power.invariant j (omega arith) in omega arith)
