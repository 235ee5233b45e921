use Rattle.slab_core.proofs.growing.construct.Goals as goal

pub loop-i-init : goal.loop-i-init
loop-i-init c = c.clear_record.ensures c.args.colour

pub loop-i-preserved : goal.loop-i-preserved
loop-i-preserved c = c.construct_one.ensures c.args.space.now c.loop-i.invariant
