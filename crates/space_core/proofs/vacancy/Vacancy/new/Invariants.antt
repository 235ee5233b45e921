use Rattle.std.proofs.Common.{◌≡◌, true, replicate}
use Rattle.space_core.proofs.vacancy.Vacancy.new.Given as goal

abbrev pub invariant-loop : goal.invariant-loop
invariant-loop l = l.vacant.items ≡ replicate l.counter (replicate l.superblocks true)
