use Rattle.std.proofs.Common.{◌≡◌, None, replicate}
use Rattle.space_core.specs.Tables.{stored_rows}
use Rattle.space_core.proofs.pool.make_rows.Given as goal

abbrev pub invariant-loop : goal.invariant-loop
invariant-loop l = stored_rows l.rows ≡ replicate l.counter (replicate l.superblocks None)
