use Rattle.std.proofs.Common.{◌≡◌, ◌*◌, ◌≤◌, replicate}
use Rattle.space_core.proofs.banks.zero_fill.Given as goal

abbrev pub invariant-loop-i : goal.invariant-loop-i
invariant-loop-i l = record { items : l.bytes.items ≡ replicate (l.i * 1536) 0; capacity : l.unit ≤ l.bytes.cap }
