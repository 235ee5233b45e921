use Rattle.std.proofs.Common.{length}
use Rattle.kernel_core.proofs.PageCalls.{write_beyond, write_agrees, write_done, asked_opened, reach_opened}
use Rattle.kernel_core.proofs.kernel.Kernel.write.Goals as goal

pub returns-in_default-clause-steps : goal.returns-in_default-clause-steps
returns-in_default-clause-steps c =
    write_beyond _ c.args.t c.args.place c.args.bytes.now (record { together = c.in_default.ensures.together; tenant = c.in_default.ensures.known })
    c.in_default.ensures.reach

pub invariant_of-self : goal.invariant_of-self
invariant_of-self c =
    rw c.store.ensures (write_agrees _ _ _ c.args.t c.args.place c.args.bytes.now
    (asked_opened _ _ _ _ c.args.t c.self.view_is (record { together = c.in-Some.ensures.together; tenant = c.in-Some.ensures.known }))
    (reach_opened _ _ _ _ c.args.t c.args.place (length c.args.bytes.now) c.self.view_is c.in-Some.ensures.reach.0)).agree

pub returns-clause-steps : goal.returns-clause-steps
returns-clause-steps c =
    rw (c.store.ensures, ← c.self.view_is) (write_done _ _ _ c.args.t c.args.place c.args.bytes.now
    (asked_opened _ _ _ _ c.args.t c.self.view_is (record { together = c.in-Some.ensures.together; tenant = c.in-Some.ensures.known }))
    (reach_opened _ _ _ _ c.args.t c.args.place (length c.args.bytes.now) c.self.view_is c.in-Some.ensures.reach.0))
