use Rattle.std.proofs.Common.{◌≡◌, ◌≤◌}
use Rattle.known_holdings.proofs.ComputedTests.{vacant_from}
use Rattle.known_holdings.proofs.held.Held.count_vacant_from.Given as goal

abbrev pub invariant-loop-i : goal.invariant-loop-i
invariant-loop-i l = record { counted : l.count ≡ vacant_from l.self l.k l.begin l.i; most : l.count ≤ l.i }
