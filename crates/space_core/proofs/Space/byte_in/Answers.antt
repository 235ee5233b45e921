use Rattle.std.proofs.Common.{◌/◌, arith}
use Rattle.space_core.proofs.Mapping.{superblock-lt}
use Rattle.space_core.proofs.Space.byte_in.Goals as goal

pub bytes-requires : goal.bytes-requires
bytes-requires c =
    let s = c.args.self.now in
    let below = superblock-lt c.laws.ensures.facts c.args.t (c.args.place / s.unit) c.args.m c.requires in
    omega (arith, below, c.from-m.ensures)
