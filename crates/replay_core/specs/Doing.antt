-- Lines that are processed one after another. `does s line taken rest s'` says that a line leads from state s to state s'. Of the
-- line's output, the drain took `taken` and did not take `rest`, which is empty unless the drain failed.
use Rattle.std.specs.Prelude.{◌≡◌, ℕ, ◌<◌, List, [], ◌∷◌, ◌++◌, length, Option, Result, Err}
use Rattle.std.specs.Io.KnownBytes.{Appends}
use Rattle.world_core.specs.Output.{with_line_feeds}
use Rattle.streams.specs.declared.feed.Stopped.{Stopped}
use Rattle.streams.specs.Lines.{IsOneLine}
use Rattle.replay_core.specs.Standing.{AreLines}
use Rattle.replay_core.specs.Pushes.{IsWholeAtOk}

-- the lines were processed in full, one after another, and the drain took `taken` in all
abbrev pub HaveRun : {S : Type 0} → (S → List ℕ → List ℕ → List ℕ → S → Type 0) → S → List (List ℕ) → List ℕ → S → Type 0
HaveRun does s [] taken s' = (taken ≡ []) × (s' ≡ s)
HaveRun {S} does s (line ∷ lines) taken s' =
    (mid : S) × (here : List ℕ) × (later : List ℕ) × (taken ≡ here ++ later) × does s line here [] mid × HaveRun does mid lines later s'

-- the lines `done` were processed in full, and of the output of the next line the drain took only a part
pub record IsCutOff {S : Type 0} (does : S → List ℕ → List ℕ → List ℕ → S → Type 0) (s : S) (done : List (List ℕ)) (line taken : List ℕ)
    (s' : S) : Type 0 where
  pub mid : S
  pub earlier : List ℕ
  pub here : List ℕ
  pub rest : List ℕ
  pub split : taken ≡ earlier ++ here
  pub some : 0 < length rest
  pub ran : HaveRun does s done earlier mid
  pub did : does mid line here rest s'

-- One line, given by its bytes or its reading, was processed. If the result is Ok, the drain took all of the line's output;
-- otherwise it took only a part.
pub record HasDone {S L : Type 0} (does : S → L → List ℕ → List ℕ → S → Type 0) (s : S) (line : L) (old new : Option (List ℕ))
    (result : Result (Unit {0}) Stopped) (s' : S) : Type 0 where
  pub taken : List ℕ
  pub rest : List ℕ
  pub did : does s line taken rest s'
  pub appended : Appends old new taken
  pub whole : IsWholeAtOk result rest

-- the bytes before `rest` are whole lines, and these lines were processed in full
pub record HasGone {S : Type 0} (does : S → List ℕ → List ℕ → List ℕ → S → Type 0) (s : S) (bytes rest : List ℕ) (old new : Option (List ℕ))
    (s' : S) : Type 0 where
  pub done : List (List ℕ)
  pub taken : List ℕ
  pub split : bytes ≡ with_line_feeds done ++ rest
  pub ended : AreLines done
  pub ran : HaveRun does s done taken s'
  pub appended : Appends old new taken

-- the first lines of these bytes were processed in full, and the drain failed in the output of the line after them
pub record HasStopped {S : Type 0} (does : S → List ℕ → List ℕ → List ℕ → S → Type 0) (s : S) (bytes : List ℕ) (old new : Option (List ℕ))
    (s' : S) : Type 0 where
  pub mid : S
  pub now : Option (List ℕ)
  pub line : List ℕ
  pub after : List ℕ
  pub stopped : Stopped
  pub gone : HasGone does s bytes ((line ++ 10 ∷ []) ++ after) old now mid
  pub one : IsOneLine line
  pub done : HasDone does mid line now new (Err stopped) s'
