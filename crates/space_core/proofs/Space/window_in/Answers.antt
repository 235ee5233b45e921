use Rattle.std.proofs.Common.{◌/◌, arith}
use Rattle.space_core.proofs.Mapping.{superblock-lt}
use Rattle.space_core.proofs.OwnBytes.{home_is}
use Rattle.space_core.proofs.Space.window_in.Goals as goal

pub part_mut-requires-clause-in_bounds : goal.part_mut-requires-clause-in_bounds
part_mut-requires-clause-in_bounds c =
    let s = c.args.self.now in
    let under = (home_is s c.args.t c.args.place c.args.len c.args.m c.requires).2 in
    let below = superblock-lt c.laws.ensures.facts c.args.t (c.args.place / s.unit) c.args.m under in
    omega (arith, below, c.from.ensures)
