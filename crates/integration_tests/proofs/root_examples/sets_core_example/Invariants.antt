use Rattle.std.proofs.Common.{◌≡◌, length}
use Rattle.integration_tests.proofs.root_examples.sets_core_example.Given as goal

abbrev pub invariant-loop-number : goal.invariant-loop-number
invariant-loop-number g l = length l.set ≡ 256
