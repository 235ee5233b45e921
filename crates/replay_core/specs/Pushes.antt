-- A drain takes all bytes of a text, or only a prefix of them if it fails. The bytes taken are counted.
use Rattle.std.specs.Prelude.{◌≡◌, ℕ, ◌+◌, ◌*◌, ◌^◌, ◌<◌, Bool, false, List, [], ◌++◌, length, Option, Result, MatchResult, is_err}
use Rattle.std.specs.Io.KnownBytes.{Appends}
use Rattle.words_core.specs.declared.text.TheConstants.{TABLE_ROWS, MAX_REPLY_BYTES}
use Rattle.streams.specs.declared.feed.Stopped.{Stopped}

-- an upper bound on the number of bytes in a reply: no reply has more lines than the table of owners, and a line has at most 256
-- bytes
abbrev pub most_reply_bytes : ℕ
most_reply_bytes = TABLE_ROWS * MAX_REPLY_BYTES

-- `rest` is empty if the result is Ok, and not empty if the drain failed
abbrev pub IsWholeAtOk : Result (Unit {0}) Stopped → List ℕ → Type 0
IsWholeAtOk result rest = MatchResult result (λ _. rest ≡ []) (λ _. 0 < length rest)

-- the drain has not failed, and `len` more bytes can be counted
pub record CanWrite (failed : Bool) (written len : ℕ) : Type 0 where
  pub fine : failed ≡ false
  pub counted : written + len < 2 ^ 128

-- a prefix of the text was taken and counted; if it is not the whole text, the drain has failed
pub record HasPushed (old new : Option (List ℕ)) (failing : Bool) (text : List ℕ) (written written' : ℕ)
    (result : Result (Unit {0}) Stopped) : Type 0 where
  pub taken : List ℕ
  pub rest : List ℕ
  pub split : text ≡ taken ++ rest
  pub appended : Appends old new taken
  pub counted : written' ≡ written + length taken
  pub whole : IsWholeAtOk result rest
  pub failed : failing ≡ is_err result
