use Rattle.kernel_core.specs.Content.{opening_content}
use Rattle.kernel_core.proofs.Opening.{opening_agrees, opening_is}
use Rattle.kernel_core.proofs.kernel.Kernel.new.Goals as goal

pub invariant_of-result : goal.invariant_of-result
unfolding opening_content
invariant_of-result c =
    rw (c.in_ok-space.ensures, c.in_ok-buddy.ensures, c.in_ok-slabs.ensures) (opening_agrees c.args.order c.args.superblocks c.args.tenants)

pub returns : goal.returns
unfolding opening_content
returns c =
    rw (c.in_ok-space.ensures, c.in_ok-buddy.ensures, c.in_ok-slabs.ensures) (opening_is c.args.order c.args.superblocks c.args.tenants)
