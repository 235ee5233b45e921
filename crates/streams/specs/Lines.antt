-- The bytes of one line, without the LF (byte 10) that ends the line.
use Rattle.std.specs.Prelude.{◌≡◌, ℕ, ◌==◌, false, List, [], ◌∷◌}

-- none of the bytes is an LF
abbrev pub IsOneLine : List ℕ → Type 0
IsOneLine [] = Unit {0}
IsOneLine (b ∷ bytes) = ((b == 10) ≡ false) × IsOneLine bytes
