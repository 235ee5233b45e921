use Rattle.std.proofs.Common.{◌/◌}
use Rattle.kernel_core.proofs.CallEffects.{superblock_there}
use Rattle.kernel_core.proofs.PageCalls.{under_home}
use Rattle.kernel_core.proofs.pages.lent.Goals as goal

pub machine_bytes-requires : goal.machine_bytes-requires
machine_bytes-requires c =
    superblock_there c.args.space.now c.laws.ensures.facts c.args.t (c.args.place / c.args.space.now.unit) c.args.superblock
    (under_home c.args.space.now c.args.t c.args.place c.args.len c.args.superblock c.requires.home)
