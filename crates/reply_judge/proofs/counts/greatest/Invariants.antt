use Rattle.std.proofs.Common.{◌≡◌, ◌<◌}
use Rattle.std.specs.Prelude.{slice_index, IfSome}
use Rattle.model_core.specs.Reports.{greatest}
use Rattle.reply_judge.proofs.counts.greatest.Given as goal

abbrev pub invariant-loop-order : goal.invariant-loop-order
invariant-loop-order l = record {
  value : l.top ≡ greatest (slice_index l.counts) l.order;
  small : IfSome l.top (λ k. k < l.order);
}
