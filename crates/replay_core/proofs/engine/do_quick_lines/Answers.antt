use Rattle.replay_core.proofs.DoingLemmas.{gone_nothing, result_on, at_error}
use Rattle.replay_core.proofs.engine.do_quick_lines.Goals as goal

pub returns-then-not-may_begin_request-clause-done : goal.returns-then-not-may_begin_request-clause-done
returns-then-not-may_begin_request-clause-done g c = gone_nothing _ _ _ _

pub returns-in_err-rest-clause-done : goal.returns-in_err-rest-clause-done
returns-in_err-rest-clause-done g c = at_error _ _ c.from_residual.result c.from_residual.ensures.0 (λ _. c.in_err-rest.ensures.done)

pub returns-clause-done : goal.returns-clause-done
returns-clause-done g c =
    result_on _ c.quick_lines-2.result (λ rest. rest.now) _ _ _ _ _ _ _ _ c.in_ok-rest.ensures.done c.quick_lines-2.ensures.done
