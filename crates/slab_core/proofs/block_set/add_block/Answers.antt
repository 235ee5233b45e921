use Rattle.std.proofs.Common.{◌/◌, ◌<◌, length, arith}
use Rattle.slab_core.proofs.BitSets.{one_more}
use Rattle.slab_core.proofs.block_set.add_block.Goals as goal

pub returns-clause-has : goal.returns-clause-has
returns-clause-has c n =
    let within : c.args.number / 64 < length c.args.words.now = omega (arith, c.requires) in
    one_more c.args.words.now c.args.number within n
