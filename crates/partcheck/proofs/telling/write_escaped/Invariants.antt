use Rattle.std.proofs.Common.{flat_map, take}
use Rattle.std.specs.Io.KnownBytes.{Appends}
use Rattle.std.specs.Char.Escape.{escape_ascii}
use Rattle.partcheck.proofs.telling.write_escaped.Given as goal

-- the escapes of the bytes so far are written
abbrev pub invariant-loop-byte : goal.invariant-loop-byte
invariant-loop-byte g l = Appends (g.W.Write.contents l.fn.out) (g.W.Write.contents l.out) (flat_map escape_ascii (take l.byte-index l.text))
