-- What the drain takes while a tenant's own lines are copied from a feed into it.
use Rattle.std.specs.Prelude.{◌≡◌, ℕ, Bool, true, false, List, [], ◌∷◌, ◌++◌, Result, Ok, Err}
use Rattle.words_core.specs.Cutting.{lines_of_trace}
use Rattle.words_core.specs.Grammar.{reading_of}
use Rattle.kernel_core.specs.Content.{KernelContent, SameSizes}
use Rattle.kernel_core.specs.Shows.{Shows}
use Rattle.world_core.specs.Limits.{cache_limit}
use Rattle.world_core.specs.World.{World, world_after}
use Rattle.world_core.specs.Output.{event_in, ended_lines}
use Rattle.replay_core.specs.Runs.{StandsAfter, IsCutIn, HasCome}
use Rattle.own_trace.specs.declared.keeping.KeepError.{KeepError}
use Rattle.own_trace.specs.declared.keeping.OwnLines.{OwnLines}
use Rattle.own_trace.specs.Kept.{own_text}

-- these lines were run, and the drain took the text of those that are in the tenant's own list
pub record HasKept (t : ℕ) (before after : KernelContent) (lines : List (List ℕ)) (taken : List ℕ) : Type 0 where
  pub stands : StandsAfter before after lines
  pub kept : (w : World) → Shows before w → taken ≡ own_text t cache_limit before.order lines w

-- these lines and then `line` were run; the drain took the own text of `lines`, and only a part of what `line` adds to it
pub record IsKeptShort (t : ℕ) (before after : KernelContent) (lines : List (List ℕ)) (line taken : List ℕ) : Type 0 where
  pub stands : StandsAfter before after (lines ++ line ∷ [])
  pub kept : (w : World) → Shows before w → IsCutIn (λ xs. own_text t cache_limit before.order xs w) lines line taken

-- What the drain took of the lines in the bytes that the feed gave. If the result is Ok, it took the text of all own lines. If
-- the feed failed, it took the own lines among those that ended in LF. If the drain failed, the text of the last line that was
-- run is cut.
abbrev pub KeepsOwn : Bool → ℕ → KernelContent → KernelContent → List ℕ → List ℕ → Result (Unit {0}) KeepError → Type 0
KeepsOwn ended t before after given taken (Ok done) = HasKept t before after (lines_of_trace given) taken
KeepsOwn ended t before after given taken (Err KeepError.Feed) = HasKept t before after (ended_lines given) taken
KeepsOwn ended t before after given taken (Err KeepError.Drain) =
    (lines : List (List ℕ)) × (line : List ℕ) × HasCome ended given (lines ++ line ∷ []) × IsKeptShort t before after lines line taken

-- the result names the end that failed, the feed or the drain; it is Ok if neither failed
abbrev pub NamesEnd : Result (Unit {0}) KeepError → Bool → Bool → Type 0
NamesEnd (Ok done) feed drain = (feed ≡ false) × (drain ≡ false)
NamesEnd (Err KeepError.Feed) feed drain = (feed ≡ true) × (drain ≡ false)
NamesEnd (Err KeepError.Drain) feed drain = (feed ≡ false) × (drain ≡ true)

-- a line was run, and `text` is what it adds to the text of the tenant's own lines: the line with an LF, or nothing
pub record KeepsLine (t : ℕ) (line : List ℕ) (before after : KernelContent) (text : List ℕ) : Type 0 where
  pub sizes : SameSizes before after
  pub shows : (w : World) → Shows before w → Shows after (world_after cache_limit before.order w (event_in (reading_of line)))
  pub kept : (w : World) → Shows before w → own_text t cache_limit before.order (line ∷ []) w ≡ text

-- A line was run. Of the text that it adds to the tenant's own list, the drain took the first part, `taken`, and did not take the
-- rest, `rest`.
abbrev pub keeps : OwnLines × KernelContent → List ℕ → List ℕ → List ℕ → OwnLines × KernelContent → Type 0
keeps s line taken rest s' = (s'.0.tenant ≡ s.0.tenant) × KeepsLine s.0.tenant line s.1 s'.1 (taken ++ rest)
