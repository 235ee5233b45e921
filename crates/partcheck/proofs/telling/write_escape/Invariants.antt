use Rattle.std.proofs.Common.{◌≡◌, ◌≤◌, ℕ, List, ◌++◌}
use Rattle.std.specs.Char.Escape.{escape_ascii}
use Rattle.std.specs.Char.Iter.{escape_byte_rest, escape_byte_left, escape_byte_end}
use Rattle.std.specs.Io.KnownBytes.{Appends}
use Rattle.partcheck.proofs.telling.write_escape.Given as goal

-- the bytes that were written, followed by the bytes that are left, are the escape of the byte
abbrev pub invariant-escape : goal.invariant-escape
invariant-escape g l = (escape_byte_end l.rest ≤ 4) × ((done : List ℕ) × Appends (g.W.Write.contents l.fn.out) (g.W.Write.contents l.out) done
    × (done ++ escape_byte_rest l.rest ≡ escape_ascii l.byte))

abbrev pub decreases-escape : goal.decreases-escape
decreases-escape g l = escape_byte_left l.rest
