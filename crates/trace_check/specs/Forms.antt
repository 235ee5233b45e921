-- Forms: texts with a `#` in place of each number.
use Rattle.std.specs.Prelude.{◌≡◌, ℕ, ◌==◌, ◌&&◌, List, [], ◌∷◌, length, take, drop, take_while, slice_index, nat_lt, if◌then◌else◌, Option, Some, None}
use Rattle.std.specs.Char.{is_ascii_digit}
use Rattle.words_core.specs.Numbers.{number_of}

-- The `?` operator of the logic: if the first step found something, the second step is applied to it; otherwise the result is
-- `None`.
infixl 10 ◌>>=◌
abbrev pub ◌>>=◌ : {A B : Type 0} → Option A → (A → Option B) → Option B
Some x >>= f = f x
None >>= f = None

-- The result of a function, mapped with `view`, is equal to `found`.
abbrev pub Gives : {X Y : Type 0} → (X → Y) → Option X → Option Y → Type 0
Gives view (Some x) found = found ≡ Some (view x)
Gives view None found = found ≡ None

-- the number that a word without leading zeros spells; byte 48 is `0`
abbrev pub plain_number : List ℕ → Option ℕ
plain_number word = if nat_lt 1 (length word) && slice_index word 0 == 48 then None else number_of word

-- the number at the front of the text, and the text that follows it
unfoldable pub number_at : List ℕ → Option (ℕ × List ℕ)
number_at text =
    let size = length (take_while is_ascii_digit text) in
    plain_number (take size text) >>= (λ number. Some (number, drop size text))

-- if the text begins with this byte, the result is the text after the byte, with None in place of a number
abbrev pub letter_at : ℕ → List ℕ → Option (Option ℕ × List ℕ)
letter_at letter [] = None
letter_at letter (b ∷ text) = if b == letter then Some (None, text) else None

-- One byte of a form, matched with the front of the text: a `#` (byte 35) matches a number, any other byte matches itself. The
-- result is the number, if there is one, and the text that follows.
unfoldable pub mark_at : ℕ → List ℕ → Option (Option ℕ × List ℕ)
mark_at mark text =
    if mark == 35 then (number_at text >>= (λ number. Some (Some number.0, number.1))) else letter_at mark text

-- the list of numbers, with the optional number put in front of it
abbrev pub onto : Option ℕ → List ℕ → List ℕ
onto None numbers = numbers
onto (Some number) numbers = number ∷ numbers

-- the numbers that match the `#`s of the form at the front of the text, and the text that follows the match
unfoldable pub form_at : List ℕ → List ℕ → Option (List ℕ × List ℕ)
form_at [] text = Some ([], text)
form_at (mark ∷ form) text = do
  first ← mark_at mark text
  others ← form_at form first.1
  Some (onto first.0 others.0, others.1)
