use Rattle.std.proofs.Common.{◌<◌, ◌/◌, ◌^◌, length, rules}
use Rattle.kernel_core.proofs.CallEffects.{superblock_there}
use Rattle.kernel_core.proofs.kernel.Kernel.machine_frame_in.Goals as goal

pub returns-clause-below : goal.returns-clause-below
returns-clause-below c =
    let less : c.args.superblock < length c.args.self.now.space.owners
    = superblock_there c.args.self.now.space c.laws.ensures.together.space.facts c.args.t (c.args.frame / 2 ^ c.args.self.now.order) c.args.superblock c.requires in
    search rules
