use Rattle.replay_core.proofs.RunnableLemmas.{read_is_runnable}
use Rattle.replay_core.proofs.pending.Pending.end_with.Goals as goal

pub returns-then-is_empty-clause-runnable : goal.returns-then-is_empty-clause-runnable
returns-then-is_empty-clause-runnable c = read_is_runnable _ _ c.read_line.ensures.exact
