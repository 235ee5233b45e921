-- The eight cases of a line, with the meaning of the line in each. They are tested in order, and the first that applies decides.
-- A law says that each line is in exactly one case.
use Rattle.std.specs.Prelude.{◌≡◌, ◌<◌, ◌≤◌, ◌⊎◌, ℕ, List, [], ◌∷◌, length, slice_index, codes, Option, Some, None, Result, Ok, Err}
use Rattle.std.specs.List.{Contains}
use Rattle.std.specs.Str.Lines.{strip_carriage_return}
use Rattle.words_core.specs.Numbers.{number_of}
use Rattle.words_core.specs.Words.{HasWords}
use Rattle.words_core.specs.Commands.{Form, Given, Maker, CommandRow, read_as, Actor, administrator, tenant, CommandOf, command_rows, event_by, nobody_fault}
use Rattle.words_core.specs.declared.line.TheConstants.{MAX_LINE_BYTES}
use Rattle.words_core.specs.declared.event.Event.{Event}
use Rattle.words_core.specs.declared.event.LineFault.{LineFault}

-- the word begins with `#`
abbrev pub IsComment : List ℕ → Type 0
IsComment word = slice_index word 0 ≡ 35

-- the word names this actor: it is `admin` for the administrator, or the number of the tenant
abbrev pub Names : List ℕ → Actor → Type 0
Names word administrator = word ≡ codes "admin"
Names word (tenant t) = number_of word ≡ Some t

-- this row of the actor's table of commands has this word
abbrev pub AsksFor : (actor : Actor) → List ℕ → CommandRow (CommandOf actor) → Type 0
AsksFor actor word row = Contains (command_rows actor) row × (word ≡ row.word)

-- the first argument that does not have its form has this fault
abbrev pub FirstFault : List Form → List (List ℕ) → LineFault → Type 0
FirstFault (form ∷ forms) (word ∷ words) fault =
    (read_as form word ≡ Err fault) ⊎ ((value : Given form) × (read_as form word ≡ Ok value) × FirstFault forms words fault)
FirstFault [] words fault = ⊥
FirstFault (_ ∷ _) [] fault = ⊥

-- each argument has its form, and together they make this command
abbrev pub AllMake : {C : Type 0} (forms : List Form) → Maker forms C → List (List ℕ) → C → Type 0
AllMake [] made [] command = made ≡ command
AllMake (form ∷ forms) makes (word ∷ words) command =
    (value : Given form) × (read_as form word ≡ Ok value) × AllMake forms (makes value) words command
AllMake [] made (_ ∷ _) command = ⊥
AllMake (_ ∷ _) makes [] command = ⊥

-- the words are in the case with this number and have this meaning
pub data CaseOfWords : ℕ → List (List ℕ) → Result (Option Event) LineFault → Type 0 where
  -- 2. there is no word, or the first begins with `#`: the line requests nothing
  blank : CaseOfWords 2 [] (Ok None)
  comment : {first : List ℕ} {rest : List (List ℕ)} → IsComment first → CaseOfWords 2 (first ∷ rest) (Ok None)
  -- 3. the first word names nobody: the fault is `Number` if the word begins with a digit, else `Unknown`
  nobody : {first : List ℕ} {rest : List (List ℕ)} → ¬ IsComment first → ((actor : Actor) → ¬ Names first actor)
      → CaseOfWords 3 (first ∷ rest) (Err (nobody_fault first))
  -- 4. there is no second word: the fault is `Words`
  alone : {first : List ℕ} (actor : Actor) → Names first actor → CaseOfWords 4 (first ∷ []) (Err LineFault.Words)
  -- 5. the second word is not a command of the actor that the first word names: the fault is `Unknown`
  no_command : {first word : List ℕ} {arguments : List (List ℕ)} (actor : Actor) → Names first actor
      → ((row : CommandRow (CommandOf actor)) → ¬ AsksFor actor word row) → CaseOfWords 5 (first ∷ word ∷ arguments) (Err LineFault.Unknown)
  -- 6. the line does not have as many arguments as the command takes: the fault is `Words`
  wrong_count : {first word : List ℕ} {arguments : List (List ℕ)} (actor : Actor) → Names first actor
      → (row : CommandRow (CommandOf actor)) → AsksFor actor word row → ¬ (length arguments ≡ length row.forms)
      → CaseOfWords 6 (first ∷ word ∷ arguments) (Err LineFault.Words)
  -- 7. some argument does not have its form: the first such argument from the left determines the fault
  faulty : {first word : List ℕ} {arguments : List (List ℕ)} {fault : LineFault} (actor : Actor) → Names first actor
      → (row : CommandRow (CommandOf actor)) → AsksFor actor word row → length arguments ≡ length row.forms
      → FirstFault row.forms arguments fault → CaseOfWords 7 (first ∷ word ∷ arguments) (Err fault)
  -- 8. each argument has its form: the line requests this event
  event : {first word : List ℕ} {arguments : List (List ℕ)} (actor : Actor) → Names first actor
      → (row : CommandRow (CommandOf actor)) → AsksFor actor word row → (command : CommandOf actor)
      → AllMake row.forms row.makes arguments command
      → CaseOfWords 8 (first ∷ word ∷ arguments) (Ok (Some (event_by actor command)))

-- The bytes are a line without the carriage return that may be at its end. The line is in the case with this number and has this
-- meaning.
pub data CaseOfBytes : ℕ → List ℕ → Result (Option Event) LineFault → Type 0 where
  -- 1. the line has more than 255 bytes: the fault is `Long`, even if the line is a comment
  too_long : {bytes : List ℕ} → MAX_LINE_BYTES < length bytes → CaseOfBytes 1 bytes (Err LineFault.Long)
  -- 2 to 8. the line has at most 255 bytes: it is in the case of its words
  of_words : {number : ℕ} {bytes : List ℕ} {reading : Result (Option Event) LineFault} → length bytes ≤ MAX_LINE_BYTES
      → (words : List (List ℕ)) → HasWords bytes words → CaseOfWords number words reading → CaseOfBytes number bytes reading

-- the line is in the case with this number and has this meaning
abbrev pub Case : ℕ → List ℕ → Result (Option Event) LineFault → Type 0
Case number line reading = CaseOfBytes number (strip_carriage_return line) reading

-- the line has this meaning
abbrev pub Says : List ℕ → Result (Option Event) LineFault → Type 0
Says line reading = (number : ℕ) × Case number line reading
