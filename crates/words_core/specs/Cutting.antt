-- How the bytes of a trace are cut into lines.
use Rattle.std.specs.Prelude.{ℕ, List, [], ◌∷◌, ◌==◌, if◌then◌else◌}
use Rattle.std.specs.List.{onto_first}

-- The lines of the bytes, without the line feeds (byte 10) that end them. Bytes after the last line feed are a line too.
abbrev pub lines_of_trace : List ℕ → List (List ℕ)
lines_of_trace [] = []
lines_of_trace (b ∷ bytes) = if b == 10 then [] ∷ lines_of_trace bytes else onto_first b (lines_of_trace bytes)
