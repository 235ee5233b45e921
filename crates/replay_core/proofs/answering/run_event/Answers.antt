use Rattle.replay_core.proofs.answering.run_event.Goals as goal

pub replied-requires-clause-rows : goal.replied-requires-clause-rows
replied-requires-clause-rows g c = rw (c.in-Tenant.is, c.in-None.ensures.same) tt

pub returns-in-Some-administer-clause-done : goal.returns-in-Some-administer-clause-done
returns-in-Some-administer-clause-done g c read =
    c.answered.ensures.done _ _ read (rw c.in-Admin.is c.in-Some-administer.ensures.steps)
