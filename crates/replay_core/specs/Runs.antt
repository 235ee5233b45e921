-- The result of a replay: which lines it ran, what it showed and counted, and what it noted.
use Rattle.std.specs.Prelude.{◌≡◌, ◌⊎◌, ℕ, suc, ◌+◌, ◌<◌, Bool, List, [], ◌∷◌, ◌++◌, length, take, Option, Some, None, Result, Ok, Err}
use Rattle.words_core.specs.declared.event.Event.{Event}
use Rattle.words_core.specs.declared.event.LineFault.{LineFault}
use Rattle.world_core.specs.Limits.{cache_limit}
use Rattle.world_core.specs.World.{World, opening_world, world_after}
use Rattle.world_core.specs.Output.{shown_lines, ended_lines, events_of, lines_for, with_line_feeds}
use Rattle.world_core.specs.Laws.{private_lines}
use Rattle.words_core.specs.Cutting.{lines_of_trace}
use Rattle.words_core.specs.Grammar.{reading_of}
use Rattle.kernel_core.specs.Content.{KernelContent, SameSizes}
use Rattle.kernel_core.specs.Shows.{Shows}
use Rattle.streams.specs.declared.tally.Tally.{Tally}
use Rattle.streams.specs.declared.tally.ReplayError.{ReplayError}
use Rattle.replay_core.specs.Noting.{Noting, noted_fault, noted_lines}

abbrev pub fault_in : Result (Option Event) LineFault → ℕ
fault_in (Ok event) = 0
fault_in (Err fault) = 1

-- the number of faulty lines
abbrev pub faults_of : List (List ℕ) → ℕ
faults_of [] = 0
faults_of (line ∷ lines) = fault_in (reading_of line) + faults_of lines

-- `tally` has four counts: the lines, their events, the faulty lines among them, and the bytes that the drain took
pub record Counts (tally : Tally) (done : List (List ℕ)) (taken : List ℕ) : Type 0 where
  pub lines : tally.lines ≡ length done
  pub events : tally.events ≡ length (events_of done)
  pub faults : tally.faults ≡ faults_of done
  pub written : tally.written ≡ length taken

-- `after` has the sizes of `before`, and shows the world after these lines
pub record StandsAfter (before after : KernelContent) (lines : List (List ℕ)) : Type 0 where
  pub sizes : SameSizes before after
  pub shows : (w : World) → Shows before w → Shows after (world_after cache_limit before.order w (events_of lines))

-- these lines were run and counted, and the drain took all that they show
pub record HasRun (only : Option ℕ) (before after : KernelContent) (lines : List (List ℕ)) (taken : List ℕ) (tally : Tally) : Type 0 where
  pub stands : StandsAfter before after lines
  pub shown : (w : World) → Shows before w → taken ≡ shown_lines only cache_limit before.order lines w
  pub counted : Counts tally lines taken

-- the drain took the whole text of `lines`, and a prefix, but not all, of the text that `line` adds
abbrev pub IsCutIn : (text : List (List ℕ) → List ℕ) → (lines : List (List ℕ)) → (line taken : List ℕ) → Type 0
IsCutIn text lines line taken = (part rest : List ℕ) × (0 < length rest) × (taken ≡ text lines ++ part) × (text (lines ++ line ∷ []) ≡ taken ++ rest)

-- these lines and one more were run; the text of the last one was taken only in part
pub record IsCutShort (only : Option ℕ) (before after : KernelContent) (lines : List (List ℕ)) (line taken : List ℕ) (tally : Tally) : Type 0 where
  pub stands : StandsAfter before after (lines ++ line ∷ [])
  pub shown : (w : World) → Shows before w → IsCutIn (λ xs. shown_lines only cache_limit before.order xs w) lines line taken
  pub counted : Counts tally (lines ++ line ∷ []) taken

-- There are two cases. Either `lines` are the first of the lines with an LF that the feed gave. Or the feed has ended, and
-- `lines` are all lines that it gave.
abbrev pub HasCome : Bool → List ℕ → List (List ℕ) → Type 0
HasCome ended given lines = ((rest : List (List ℕ)) × (ended_lines given ≡ lines ++ rest)) ⊎ ((ended ≡ Bool.true) × (lines_of_trace given ≡ lines))

-- If the result is Ok, all lines were run. If the feed failed, the lines that ended in LF were run. If the drain failed, the text
-- of the last line that was run was cut short.
abbrev pub Replays : Bool → Option ℕ → KernelContent → KernelContent → List ℕ → List ℕ → Result Tally ReplayError → Type 0
Replays ended only before after given taken (Ok tally) = HasRun only before after (lines_of_trace given) taken tally
Replays ended only before after given taken (Err (ReplayError.Feed tally)) = HasRun only before after (ended_lines given) taken tally
Replays ended only before after given taken (Err (ReplayError.Drain tally)) =
    (done : List (List ℕ)) × (line : List ℕ) × HasCome ended given (done ++ line ∷ []) × IsCutShort only before after done line taken tally

-- the result is Ok only if the feed has ended
abbrev pub IsDone : Result Tally ReplayError → Bool → Type 0
IsDone (Ok tally) ended = ended ≡ Bool.true
IsDone (Err error) ended = Unit {0}

-- the result is Ok if neither the feed nor the drain failed, and otherwise it names the one that failed
abbrev pub NamesFailed : Result Tally ReplayError → Bool → Bool → Type 0
NamesFailed (Ok tally) feed drain = (feed ≡ Bool.false) × (drain ≡ Bool.false)
NamesFailed (Err (ReplayError.Feed tally)) feed drain = (feed ≡ Bool.true) × (drain ≡ Bool.false)
NamesFailed (Err (ReplayError.Drain tally)) feed drain = (feed ≡ Bool.false) × (drain ≡ Bool.true)

-- If the kernel showed an opening world, a tenant's reply lines are the lines that its private machine gives for the tenant's own
-- list of the trace. With `only`, the drain took nothing else.
abbrev pub HasOwnLines : Option ℕ → KernelContent → List ℕ → List ℕ → Type 0
HasOwnLines None before given taken = (superblocks tenants t : ℕ) → Shows before (opening_world superblocks tenants) → t < tenants →
    lines_for t taken ≡ private_lines cache_limit before.order superblocks tenants t given
HasOwnLines (Some t) before given taken = (superblocks tenants : ℕ) → Shows before (opening_world superblocks tenants) → t < tenants →
    taken ≡ with_line_feeds (private_lines cache_limit before.order superblocks tenants t given)

-- `notes'` are the notes after these lines, for any world that the kernel showed
abbrev pub AreNoted : {N : Type 0} → Noting N → Option ℕ → KernelContent → List (List ℕ) → N → N → Type 0
AreNoted noting only before lines notes notes' =
    (w : World) → Shows before w → notes' ≡ noted_lines noting only cache_limit before.order 1 lines w notes

-- The notes after all lines that were run. If the feed failed, the unfinished line is noted too if it is faulty. If the drain
-- failed, the line whose reply was cut short is one of the lines that were run.
abbrev pub Noted : {N : Type 0} → Noting N → Bool → Option ℕ → KernelContent → List ℕ → Result Tally ReplayError → N → N → Type 0
Noted noting ended only before given (Ok tally) notes notes' = AreNoted noting only before (lines_of_trace given) notes notes'
Noted {N} noting ended only before given (Err (ReplayError.Feed tally)) notes notes' = (mid : N) × (tail : List ℕ)
    × AreNoted noting only before (ended_lines given) notes mid × (given ≡ with_line_feeds (ended_lines given) ++ tail)
    × (notes' ≡ noted_fault noting (suc (length (ended_lines given))) (take 256 tail) (reading_of tail) mid)
Noted noting ended only before given (Err (ReplayError.Drain tally)) notes notes' = (lines : List (List ℕ)) × HasCome ended given lines
    × (length lines ≡ tally.lines) × AreNoted noting only before lines notes notes'
