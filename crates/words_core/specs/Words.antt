-- The words of a line: its runs of bytes that are not blanks.
use Rattle.std.specs.Prelude.{◌≡◌, ◌<◌, ℕ, Bool, true, false, List, [], ◌∷◌, ◌++◌, length, filter, ◌==◌, ◌||◌}
use Rattle.std.specs.List.{slice_split, All}

-- a space or a tab
abbrev pub is_blank : ℕ → Bool
is_blank b = b == 32 || b == 9

abbrev pub is_not_empty : List ℕ → Bool
is_not_empty [] = false
is_not_empty (_ ∷ _) = true

-- The words as a function: the parts of the line between blanks, without the empty ones.
unfoldable pub words_of : List ℕ → List (List ℕ)
words_of line = filter is_not_empty (slice_split is_blank line)

-- The words as a relation: the line consists of the words, with runs of blanks before, between and after them.

abbrev pub IsBlank : ℕ → Type 0
IsBlank b = is_blank b ≡ true

abbrev pub IsLetter : ℕ → Type 0
IsLetter b = is_blank b ≡ false

-- the bytes are a run of blanks, which may be empty
abbrev pub IsBlanks : List ℕ → Type 0
IsBlanks bytes = All IsBlank bytes

-- the word has at least one byte, and none of its bytes is a blank
abbrev pub IsWord : List ℕ → Type 0
IsWord word = (0 < length word) × All IsLetter word

-- what may follow a word: nothing, or bytes that begin with a blank
abbrev pub StartsBlank : List ℕ → Type 0
StartsBlank [] = Unit {0}
StartsBlank (b ∷ _) = IsBlank b

-- the line consists of blanks, then this whole word, then the rest
pub record BeginsWithWord (line word rest : List ℕ) : Type 0 where
  pub gap : List ℕ
  pub split : line ≡ gap ++ (word ++ rest)
  pub blanks : IsBlanks gap
  pub is_word : IsWord word
  pub ends : StartsBlank rest

-- the line consists of these words, with runs of blanks before, between and after them
abbrev pub HasWords : List ℕ → List (List ℕ) → Type 0
HasWords line [] = IsBlanks line
HasWords line (word ∷ words) = (rest : List ℕ) × BeginsWithWord line word rest × HasWords rest words
