use Rattle.std.proofs.Common.{◌≡◌, flat_map, take}
use Rattle.picture_svg.specs.Texts.{AppendsText, escaped}
use Rattle.picture_svg.proofs.svg.write_escaped.Given as goal

-- the bytes of the name so far are written, escaped
abbrev pub invariant-loop-byte : goal.invariant-loop-byte
invariant-loop-byte g l = AppendsText (g.W.Write.contents l.fn.out) (g.W.Write.contents l.out) (λ text. text ≡ flat_map escaped (take l.byte-index l.name))
