use Rattle.std.proofs.Common.{true, [], ◌∷◌, ◌∙◌}
use Rattle.promise_core.specs.declared.promise.Promise.{Promise}
use Rattle.promise_core.specs.Promises.{due}
use Rattle.promise_core.specs.State.{state_after}
use Rattle.reply_judge.specs.Judged.{broken}
use Rattle.reply_judge.proofs.owners.judge_pool.Goals as goal

pub returns : goal.returns
unfolding due state_after
returns c w s = c.on_answer.ensures ∙ (λ i. broken ((Promise.Refusals, true) ∷ (Promise.Owners, c.is_table.ensures i) ∷ []))
