use Rattle.std.proofs.Common.{◌≡◌, ℕ, Some, length, slice_get}
use Rattle.reply_judge.specs.Seen.{Seen, IsOpeningTenant}
use Rattle.reply_judge.proofs.known_machine.KnownMachine.new.Given as goal

abbrev pub invariant-loop-tenant : goal.invariant-loop-tenant
invariant-loop-tenant l = record {
  many : length l.all.items ≡ l._tenant;
  each : (k : ℕ) (y : Seen) → slice_get l.all.items k ≡ Some y → IsOpeningTenant l.order y;
}
