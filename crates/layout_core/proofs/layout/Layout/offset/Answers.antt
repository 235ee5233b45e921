use Rattle.std.proofs.Common.{arith}
use Rattle.layout_core.proofs.ObjectsFit.{ends_within}
use Rattle.layout_core.proofs.layout.Layout.offset.Goals as goal

pub overflow_mul-result : goal.overflow_mul-result
overflow_mul-result c =
    let ends = ends_within _ c.args.colour c.self.inside.chunk c.args.i c.self.invariant.accepted_size c.self.invariant.accepted_align (rw (← c.self.view_is) at c.requires.colour) c.self.invariant.chunk_is (rw (← c.self.view_is) at c.requires.object) in
    omega arith

pub overflow_add-result : goal.overflow_add-result
overflow_add-result c =
    let ends = ends_within _ c.args.colour c.self.inside.chunk c.args.i c.self.invariant.accepted_size c.self.invariant.accepted_align (rw (← c.self.view_is) at c.requires.colour) c.self.invariant.chunk_is (rw (← c.self.view_is) at c.requires.object) in
    omega arith
