-- The number of bytes that a pull gives, and the bytes that a feed still has to give.
use Rattle.std.specs.Prelude.{ℕ, List, [], ◌∷◌, Option, Some, None, Result, Ok, Err}
use Rattle.std.specs.Io.KnownBytes.{prepend_known}

-- the number of bytes that a pull gave; 0 if it failed
abbrev pub moved_count : {E : Type 0} → Result ℕ E → ℕ
moved_count (Ok n) = n
moved_count (Err e) = 0

-- the bytes that a feed still has to give: a byte that it read and did not give, if there is one, and then what the reader still
-- has
abbrev pub put_back : Option ℕ → Option (List ℕ) → Option (List ℕ)
put_back None known = known
put_back (Some b) known = prepend_known (b ∷ []) known
