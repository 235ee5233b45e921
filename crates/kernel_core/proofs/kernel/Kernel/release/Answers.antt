use Rattle.kernel_core.proofs.Releases.{releases, no_tenant}
use Rattle.kernel_core.proofs.kernel.Kernel.release.Goals as goal

pub returns-in_default : goal.returns-in_default
returns-in_default c = no_tenant c.args.self.now c.args.tenant c.args.place c.args.sizes.now c.in_default.ensures

pub returns : goal.returns
returns c =
    releases c.args.self.now c.release_of-outcome.new.self c.in-Some.t c.args.tenant c.in-Some.ensures
    (record { agree = c.laws.ensures.agree; together = c.laws.ensures.together }) c.laws-2.ensures.agree c.args.place c.args.sizes.now c.release_of-outcome.result c.release_of-outcome.ensures
