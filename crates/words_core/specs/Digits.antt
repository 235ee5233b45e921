-- The decimal digits of a number, with leading zeros.
use Rattle.std.specs.Prelude.{ℕ, ◌+◌, ◌/◌, ◌%◌, List, [], ◌∷◌, ◌++◌}

-- the two digits of a number below 100
abbrev pub two_digits : ℕ → List ℕ
two_digits n = (48 + n / 10) ∷ (48 + n % 10) ∷ []

-- the five digits of a number below 100,000
abbrev pub five_digits : ℕ → List ℕ
five_digits n = (48 + n / 10000) ∷ (two_digits (n / 100 % 100) ++ two_digits (n % 100))
