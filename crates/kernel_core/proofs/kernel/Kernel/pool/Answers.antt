use Rattle.kernel_core.proofs.kernel.Kernel.pool.Goals as goal

pub returns : goal.returns
returns c = rw c.copied.ensures c.owners.ensures.steps
