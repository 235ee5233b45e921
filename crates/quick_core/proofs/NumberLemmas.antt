-- If one more digit of a number is read, the new value is ten times the old value plus the digit.
use Rattle.std.proofs.Common.{◌≡◌, ℕ, ◌+◌, ◌-◌, ◌*◌, ◌^◌, ◌<◌, ◌≤◌, true, ◌&&◌, List, [], ◌∷◌, ◌++◌, length, get_or, sym, ◌∙◌, ap, arith}
use Rattle.std.specs.List.{list_all, slice_range}
use Rattle.std.specs.Char.{is_ascii_digit}
use Rattle.std.proofs.Math.Nat.{pow-le-pow_right}
use Rattle.std.proofs.lemmas.Grind.{fold-append, pow_more}
use Rattle.std.proofs.lemmas.List.Edits.{between_more}
use Rattle.std.proofs.lemmas.List.Folds.{list_all-append}
use Rattle.words_core.specs.Numbers.{value_of}

pub small : (value count : ℕ) → value < 10 ^ count → count < 9 → value < 100000000
small value count below few =
    let most : 10 ^ count ≤ 10 ^ 8 = pow-le-pow_right {n = 10} (omega arith) {i = count} {j = 8} (omega arith) in omega arith

one_longer : (bytes : List ℕ) (from count : ℕ) → from + count < length bytes
    → slice_range bytes from (from + (count + 1)) ≡ slice_range bytes from (from + count) ++ get_or bytes (from + count) 0 ∷ []
one_longer bytes from count within =
    ap (slice_range bytes from) (omega arith) ∙ between_more bytes from (from + count) 0 (omega arith) within

pub value_more : (bytes : List ℕ) (from count value : ℕ) → from + count < length bytes
    → value ≡ value_of (slice_range bytes from (from + count))
    → value * 10 + (get_or bytes (from + count) 0 - 48) ≡ value_of (slice_range bytes from (from + (count + 1)))
value_more bytes from count value within is =
    ap (λ v. v * 10 + (get_or bytes (from + count) 0 - 48)) is
    ∙ sym (fold-append (λ v digit. v * 10 + (digit - 48)) 0 (slice_range bytes from (from + count)) (get_or bytes (from + count) 0 ∷ []))
    ∙ ap value_of (sym (one_longer bytes from count within))

pub digits_more : (bytes : List ℕ) (from count : ℕ) → from + count < length bytes
    → list_all is_ascii_digit (slice_range bytes from (from + count)) ≡ true
    → is_ascii_digit (get_or bytes (from + count) 0) ≡ true
    → list_all is_ascii_digit (slice_range bytes from (from + (count + 1))) ≡ true
digits_more bytes from count within digits digit =
    ap (list_all is_ascii_digit) (one_longer bytes from count within)
    ∙ list_all-append is_ascii_digit (slice_range bytes from (from + count)) (get_or bytes (from + count) 0 ∷ [])
    ∙ (λ i. digits i && (digit i && true))

pub below_more : (value count digit : ℕ) → value < 10 ^ count → digit < 10 → value * 10 + digit < 10 ^ (count + 1)
below_more value count digit below ten = omega (arith, pow_more 10 count)
