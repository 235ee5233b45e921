use Rattle.std.proofs.Common.{◌≡◌, ◌+◌, ◌*◌, ◌++◌, take, length}
use Rattle.hex.specs.Hex.{encode_lower, IsBytes}
use Rattle.trace_check.proofs.hexed.bytes_of.Given as goal

-- the word is the digits of the bytes so far, and then the rest
abbrev pub invariant-pairs : goal.invariant-pairs
invariant-pairs l = record {
  text : encode_lower (take l.count l.buffer) ++ l.rest ≡ l.word;
  size : 2 * l.count + length l.rest ≡ length l.word;
  bytes : IsBytes (take l.count l.buffer);
  full : length l.buffer ≡ 64;
}

abbrev pub decreases-pairs : goal.decreases-pairs
decreases-pairs l = length l.rest
