use Rattle.std.proofs.Common.{◌≡◌, [], replicate}
use Rattle.space_core.specs.Tables.{stored_rows}
use Rattle.space_core.specs.Storage.{HaveCapacity}
use Rattle.space_core.proofs.banks.make_banks.Given as goal

abbrev pub invariant-loop : goal.invariant-loop
invariant-loop l = record { bytes : stored_rows l.banks ≡ replicate l.counter []; capacity : HaveCapacity l.unit l.banks.items }
