use Rattle.std.proofs.Common.{flat_map, take}
use Rattle.std.specs.Io.KnownBytes.{Appends}
use Rattle.partcheck.specs.Telling.{plain_byte}
use Rattle.partcheck.proofs.telling.write_plain.Given as goal

-- the bytes so far are written, with ` / ` in place of a line feed
abbrev pub invariant-loop-byte : goal.invariant-loop-byte
invariant-loop-byte g l = Appends (g.W.Write.contents l.fn.out) (g.W.Write.contents l.out) (flat_map plain_byte (take l.byte-index l.text))
