use Rattle.std.proofs.Common.{◌≡◌, ◌+◌, ◌*◌, ◌++◌, take, length}
use Rattle.hex.specs.Hex.{encode_lower}
use Rattle.words_core.proofs.hex_digits.put_hex.Given as goal

-- the digits written so far and the digits of the rest are together the digits of all bytes
abbrev pub invariant-fours : goal.invariant-fours
invariant-fours l = record {
  text : take l.end l.out ++ encode_lower l.rest ≡ take l.at l.initial.out ++ encode_lower l.bytes;
  end : l.end + 2 * length l.rest ≡ l.at + 2 * length l.bytes;
}

abbrev pub decreases-fours : goal.decreases-fours
decreases-fours l = length l.rest
