use Rattle.std.proofs.Common.{◌+◌, ◌*◌, take}
use Rattle.quick_core.specs.Pairs.{Decodes}
use Rattle.quick_core.proofs.decode.decode_singly.Given as goal

-- the first `count` pairs are decoded, and their bytes are at the front of `out`
abbrev pub invariant-loop-count : goal.invariant-loop-count
invariant-loop-count l = Decodes l.bytes l.from (l.from + 2 * l.count) (take l.count l.out)
