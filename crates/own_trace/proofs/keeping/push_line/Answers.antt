use Rattle.replay_core.proofs.PushLemmas.{pushed_begun, pushed_both}
use Rattle.own_trace.proofs.keeping.push_line.Goals as goal

pub returns-in_err-push_all : goal.returns-in_err-push_all
returns-in_err-push_all g c = (_, pushed_begun _ _ _ _ _ _ _ c.in_err-push_all.field-0.0 _ c.from_residual.ensures.0 c.in_err-push_all.ensures)

pub returns : goal.returns
returns g c = (_, pushed_both _ _ _ _ _ _ _ _ _ _ _ c.in_ok-push_all.ensures c.push_all-2.ensures)
