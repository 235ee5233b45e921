use Rattle.std.proofs.Common.{◌≡◌, ◌+◌, ◌*◌, ◌++◌, take}
use Rattle.hex.specs.Hex.{encode_lower}
use Rattle.words_core.proofs.hex_digits.put_hex_singly.Given as goal

-- the digits of the first `byte-index` bytes are written after the first `at` bytes of `out`
abbrev pub invariant-loop-byte : goal.invariant-loop-byte
invariant-loop-byte l = record {
  text : take l.end l.out ≡ take l.at l.initial.out ++ encode_lower (take l.byte-index l.bytes);
  end : l.end ≡ l.at + 2 * l.byte-index;
}
