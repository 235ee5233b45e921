-- The meaning of a line, as a function: an event, nothing, or a fault. The first rule that applies decides; `Cases`
-- lists the rules one by one.
use Rattle.std.specs.Prelude.{ℕ, Bool, true, false, List, [], ◌∷◌, length, slice_index, codes, nat_lt, ◌==◌, if◌then◌else◌, Option, Some, None, Result, Ok, Err}
use Rattle.std.specs.Str.{bytes_eq}
use Rattle.std.specs.Str.Lines.{strip_carriage_return}
use Rattle.words_core.specs.declared.line.TheConstants.{MAX_LINE_BYTES}
use Rattle.words_core.specs.Numbers.{number_of}
use Rattle.words_core.specs.Commands.{or_fault, Form, Maker, CommandRow, read_as, Actor, administrator, tenant, command_rows, event_by, nobody_fault}
use Rattle.words_core.specs.Words.{words_of}
use Rattle.words_core.specs.declared.event.Event.{Event}
use Rattle.words_core.specs.declared.event.LineFault.{LineFault}

-- The `?` operator for definitions. If the first step has a value, the second step is applied to it. If the first step has a
-- fault, this fault is the result.
infixl 10 ◌>>=◌
abbrev pub ◌>>=◌ : {A B : Type 0} → Result A LineFault → (A → Result B LineFault) → Result B LineFault
Ok x >>= f = f x
Err fault >>= f = Err fault

-- there are as many words as forms
abbrev pub are_as_many : List Form → List (List ℕ) → Bool
are_as_many [] [] = true
are_as_many (form ∷ forms) (word ∷ words) = are_as_many forms words
are_as_many [] (_ ∷ _) = false
are_as_many (_ ∷ _) [] = false

-- the command that these arguments make, or the fault of the first argument that does not have its form
abbrev pub made_of : {C : Type 0} (forms : List Form) → Maker forms C → List (List ℕ) → Result C LineFault
made_of [] makes words = Ok makes
made_of (form ∷ forms) makes [] = Err LineFault.Words
made_of (form ∷ forms) makes (word ∷ words) = do
  value ← read_as form word
  made_of forms (makes value) words

-- the command that this row makes from the arguments, or the fault, which is `Words` if the number of arguments is wrong
abbrev pub command_by : {C : Type 0} → CommandRow C → List (List ℕ) → Result C LineFault
command_by row arguments = if are_as_many row.forms arguments then made_of row.forms row.makes arguments else Err LineFault.Words

-- the command that this word names, with these arguments, or the fault, which is `Unknown` if no row has the word
abbrev pub command_of : {C : Type 0} → List (CommandRow C) → List ℕ → List (List ℕ) → Result C LineFault
command_of [] word arguments = Err LineFault.Unknown
command_of (row ∷ rows) word arguments =
    if bytes_eq word row.word then command_by row arguments else command_of rows word arguments

-- the command that the words after the first word make, or the fault, which is `Words` if there are none
abbrev pub command_in_words : {C : Type 0} → List (CommandRow C) → List (List ℕ) → Result C LineFault
command_in_words rows [] = Err LineFault.Words
command_in_words rows (word ∷ arguments) = command_of rows word arguments

-- the number of the tenant that the first word names, or the fault if it names no tenant
abbrev pub tenant_of : List ℕ → Result ℕ LineFault
tenant_of word = or_fault (number_of word) (nobody_fault word)

-- the actor that the first word names, or the fault if it names nobody
abbrev pub actor_of : List ℕ → Result Actor LineFault
actor_of word =
    if bytes_eq word (codes "admin") then Ok administrator
    else (do
      t ← tenant_of word
      Ok (tenant t))

unfoldable pub event_of : List ℕ → List (List ℕ) → Result Event LineFault
event_of first rest = do
  actor ← actor_of first
  command ← command_in_words (command_rows actor) rest
  Ok (event_by actor command)

-- the meaning of the words of a line that is not too long; byte 35 is `#`
unfoldable pub reading_of_words : List (List ℕ) → Result (Option Event) LineFault
reading_of_words [] = Ok None
reading_of_words (first ∷ rest) =
    if slice_index first 0 == 35 then Ok None
    else (do
      event ← event_of first rest
      Ok (Some event))

-- the meaning of a line of `size` bytes with these words; if `size` is above 255, the meaning is the fault `Long`
abbrev pub reading_within : ℕ → List (List ℕ) → Result (Option Event) LineFault
reading_within size words = if nat_lt MAX_LINE_BYTES size then Err LineFault.Long else reading_of_words words

-- The meaning of a line, as a function. One carriage return (byte 13) at its end is ignored.
unfoldable pub reading_of : List ℕ → Result (Option Event) LineFault
reading_of line = let bytes = strip_carriage_return line in reading_within (length bytes) (words_of bytes)
