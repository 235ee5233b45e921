-- The bytes that a reader of lines has left, and the bytes that it gives.
use Rattle.std.specs.Prelude.{◌≡◌, ℕ, ◌+◌, ◌-◌, ◌==◌, Bool, true, false, if◌then◌else◌, List, [], ◌∷◌, ◌++◌, map, Option, Some, None, Result, Ok, Err, length, take, slice_index}
use Rattle.std.specs.Io.KnownBytes.{Consumes, IsAtEnd}
use Rattle.words_core.specs.declared.event.Event.{Event}
use Rattle.words_core.specs.declared.event.LineFault.{LineFault}
use Rattle.words_core.specs.Cutting.{lines_of_trace}
use Rattle.words_core.specs.Grammar.{reading_of}
use Rattle.streams.specs.Lines.{IsOneLine}

-- What a reader of lines has left: the bytes, if they are known, and an upper bound on their number. `ended` says whether a pull
-- has reached the end, and `failed` whether a pull has failed.
pub record Source : Type 0 where
  pub left : Option (List ℕ)
  pub room : ℕ
  pub ended : Bool
  pub failed : Bool

-- a pull has reached the end, and no known byte is left
abbrev pub HasEnded : Source → Type 0
HasEnded source = (source.ended ≡ true) × IsAtEnd source.left

-- a source gave these bytes, lowered `room` by 1 for each byte, and gave no byte after its end
pub record HasGiven (old new : Source) (given : List ℕ) : Type 0 where
  pub bytes : Consumes old.left new.left given
  pub count : new.room + length given ≡ old.room
  pub none_later : HasEnded old → (given ≡ []) × HasEnded new

-- the source may still give these bytes: any bytes, but none once it has ended
abbrev pub MayFollow : Source → List ℕ → Type 0
MayFollow source more = HasEnded source → more ≡ []

-- the property holds for all texts that begin with what the two sources gave
abbrev pub WhateverFollows : (trace replies : Source) → (trace_text reply_text : List ℕ) → (List ℕ → List ℕ → Type 0) → Type 0
WhateverFollows trace replies trace_text reply_text IsSo =
    (more later : List ℕ) → MayFollow trace more → MayFollow replies later → IsSo (trace_text ++ more) (reply_text ++ later)

-- If the result is true, the part that was given is a whole line with its LF. If it is false, the part is the text after the last
-- LF, and the source has ended. If the source failed, the part can be any bytes.
abbrev pub IsPartAtOk : {E : Type 0} → Result Bool E → List ℕ → Source → Type 0
IsPartAtOk (Ok true) part new = (line : List ℕ) × IsOneLine line × (part ≡ line ++ 10 ∷ [])
IsPartAtOk (Ok false) part new = IsOneLine part × HasEnded new
IsPartAtOk (Err e) part new = Unit {0}

-- a line without the LF at its end
abbrev pub without_line_feed : List ℕ → List ℕ
without_line_feed line = if slice_index line (length line - 1) == 10 then take (length line - 1) line else line

abbrev pub readings_of : List ℕ → List (Result (Option Event) LineFault)
readings_of trace = map reading_of (lines_of_trace trace)

-- The part that was given is the next line and has this reading, whatever bytes follow. The reading is None if nothing was given
-- and the source has ended.
abbrev pub IsNextReading : Option (Result (Option Event) LineFault) → List ℕ → Source → Type 0
IsNextReading None part new = (part ≡ []) × HasEnded new
IsNextReading (Some reading) part new =
    (more : List ℕ) → MayFollow new more → readings_of (part ++ more) ≡ reading ∷ readings_of more
