use Rattle.std.proofs.Common.{◌≡◌, ◌++◌, take, drop}
use Rattle.known_holdings.proofs.rising.remove.Given as goal

abbrev pub invariant-loop : goal.invariant-loop
invariant-loop g l = l.items.items ≡ take l.begin l.fn.items.items ++ drop l.counter l.fn.items.items
