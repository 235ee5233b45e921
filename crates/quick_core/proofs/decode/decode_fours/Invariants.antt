use Rattle.std.proofs.Common.{◌+◌, ◌*◌, take}
use Rattle.quick_core.specs.Pairs.{Decodes}
use Rattle.quick_core.proofs.decode.decode_fours.Given as goal

-- the first 4 * `fours` pairs are decoded, and their bytes are at the front of `out`
abbrev pub invariant-loop-fours : goal.invariant-loop-fours
invariant-loop-fours l = Decodes l.bytes l.from (l.from + 2 * (4 * l.fours)) (take (4 * l.fours) l.out)
