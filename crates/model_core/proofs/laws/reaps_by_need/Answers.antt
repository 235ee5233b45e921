use Rattle.model_core.proofs.ReapingByNeed.{alloc_reaps, take_reaps}
use Rattle.model_core.proofs.Outcomes.{refusals_stay}
use Rattle.model_core.proofs.laws.reaps_by_need.Goals as goal

pub returns : goal.returns
returns c = record { alloc = alloc_reaps; take = take_reaps; refused = refusals_stay }
