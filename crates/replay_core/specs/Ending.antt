-- The result of a run of lines: which lines were processed, and whether the feed or the drain failed.
use Rattle.std.specs.Prelude.{◌≡◌, ℕ, Bool, true, false, List, [], ◌∷◌, ◌++◌, Result, Ok, Err}
use Rattle.words_core.specs.Cutting.{lines_of_trace}
use Rattle.world_core.specs.Output.{ended_lines, with_line_feeds}
use Rattle.replay_core.specs.declared.engine.EndFailed.{EndFailed}
use Rattle.replay_core.specs.Runs.{HasCome}
use Rattle.replay_core.specs.Doing.{HaveRun, IsCutOff}

-- an unfinished line has the effect `leaves`; if there is none, nothing changes
abbrev pub HasLeft : {S : Type 0} → (S → List ℕ → S → Type 0) → S → List ℕ → S → Type 0
HasLeft leaves s [] s' = s' ≡ s
HasLeft leaves s (b ∷ tail) s' = leaves s (b ∷ tail) s'

-- the lines that ended in LF were processed in full, and an unfinished line after them had only the effect `leaves`
pub record HasRunEnded {S K : Type 0} (does : S × K → List ℕ → List ℕ → List ℕ → S × K → Type 0) (leaves : S → List ℕ → S → Type 0)
    (s : S × K) (given taken : List ℕ) (s' : S × K) : Type 0 where
  pub mid : S
  pub tail : List ℕ
  pub ran : HaveRun does s (ended_lines given) taken (mid, s'.1)
  pub split : given ≡ with_line_feeds (ended_lines given) ++ tail
  pub left : HasLeft leaves mid tail s'.0

-- some lines were processed in full, and the output of the next one was cut short
abbrev pub HasRunInto : {S : Type 0} → (S → List ℕ → List ℕ → List ℕ → S → Type 0) → Bool → S → List ℕ → List ℕ → S → Type 0
HasRunInto does ended s given taken s' =
    (done : List (List ℕ)) × (line : List ℕ) × HasCome ended given (done ++ line ∷ []) × IsCutOff does s done line taken s'

-- If the result is Ok, all lines were processed. If the feed failed, the lines that ended in LF were processed. If the drain
-- failed, some lines were processed, and the output of the next one was cut short.
abbrev pub RunsAs : {S K : Type 0} → (S × K → List ℕ → List ℕ → List ℕ → S × K → Type 0) → (S → List ℕ → S → Type 0) → Bool → S × K
    → List ℕ → List ℕ → Result (Unit {0}) EndFailed → S × K → Type 0
RunsAs does leaves ended s given taken (Ok done) s' = HaveRun does s (lines_of_trace given) taken s'
RunsAs does leaves ended s given taken (Err EndFailed.Feed) s' = HasRunEnded does leaves s given taken s'
RunsAs does leaves ended s given taken (Err EndFailed.Drain) s' = HasRunInto does ended s given taken s'

-- the result is Ok only if the feed has ended
abbrev pub IsRunToEnd : Result (Unit {0}) EndFailed → Bool → Type 0
IsRunToEnd (Ok done) ended = ended ≡ true
IsRunToEnd (Err error) ended = Unit {0}

-- the result is Ok if neither the feed nor the drain failed, and otherwise it names the one that failed
abbrev pub NamesEndFailed : Result (Unit {0}) EndFailed → Bool → Bool → Type 0
NamesEndFailed (Ok done) feed drain = (feed ≡ false) × (drain ≡ false)
NamesEndFailed (Err EndFailed.Feed) feed drain = (feed ≡ true) × (drain ≡ false)
NamesEndFailed (Err EndFailed.Drain) feed drain = (feed ≡ false) × (drain ≡ true)
