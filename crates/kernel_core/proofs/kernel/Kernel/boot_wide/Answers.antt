use Rattle.std.proofs.Common.{subst}
use Rattle.kernel_core.specs.Content.{PartsAgree}
use Rattle.kernel_core.proofs.Opening.{opening_world_shown}
use Rattle.kernel_core.proofs.kernel.Kernel.boot_wide.Goals as goal

pub returns-clause-shows : goal.returns-clause-shows
returns-clause-shows c = rw c.in-Ok.ensures
    (opening_world_shown c.args.config.order c.args.config.superblocks c.args.config.tenants (subst PartsAgree c.in-Ok.ensures c.laws.ensures.agree))
