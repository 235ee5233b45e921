use Rattle.promise_kept.proofs.WorldSteps.{keeps_promises, trace_keeps_promises}
use Rattle.promise_kept.proofs.world_laws.keeps_promises.Goals as goal

pub returns : goal.returns
returns c = record { kept = keeps_promises; by_traces = trace_keeps_promises }
