use Rattle.replay_core.proofs.RunnableLemmas.{read_is_runnable}
use Rattle.partmem_c.proofs.lines.read.Goals as goal

pub returns-clause-runnable : goal.returns-clause-runnable
returns-clause-runnable c = read_is_runnable _ _ c.read_line.ensures.exact
