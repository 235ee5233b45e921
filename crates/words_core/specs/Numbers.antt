-- Numbers as they are written in a line.
use Rattle.std.specs.Prelude.{ℕ, ◌+◌, ◌-◌, ◌*◌, ◌^◌, Bool, List, length, fold, nat_lt, nat_le, ◌&&◌, if◌then◌else◌, Option, Some, None}
use Rattle.std.specs.List.{list_all}
use Rattle.std.specs.Char.{is_ascii_digit}
use Rattle.words_core.specs.declared.numbers.TheConstants.{MAX_DIGITS}

-- the value of a sequence of decimal digits
abbrev pub value_of : List ℕ → ℕ
value_of digits = fold (λ value digit. value * 10 + (digit - 48)) 0 digits

-- the word consists of 1 to 10 decimal digits, including leading zeros, and its value is below 2^32
abbrev pub is_number : List ℕ → Bool
is_number word =
    nat_lt 0 (length word) && nat_le (length word) MAX_DIGITS && list_all is_ascii_digit word && nat_lt (value_of word) (2 ^ 32)

abbrev pub number_of : List ℕ → Option ℕ
number_of word = if is_number word then Some (value_of word) else None
