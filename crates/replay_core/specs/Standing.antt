-- The effect of one line in a replay.
use Rattle.std.specs.Prelude.{◌≡◌, ℕ, ◌+◌, ◌^◌, ◌<◌, Bool, false, List, [], ◌∷◌, ◌++◌, length, take, Option, Some, None, Result, Ok, Err}
use Rattle.words_core.specs.declared.event.Event.{Event}
use Rattle.words_core.specs.declared.event.LineFault.{LineFault}
use Rattle.world_core.specs.Limits.{cache_limit}
use Rattle.world_core.specs.World.{World, world_after}
use Rattle.world_core.specs.Output.{event_in, shown_reading}
use Rattle.words_core.specs.Grammar.{reading_of}
use Rattle.kernel_core.specs.Content.{KernelContent, SameSizes}
use Rattle.kernel_core.specs.Shows.{Shows}
use Rattle.kernel_core.specs.Steps.{HasPattern}
use Rattle.streams.specs.Lines.{IsOneLine}
use Rattle.streams.specs.declared.tally.Tally.{Tally}
use Rattle.replay_core.specs.declared.run.Run.{Run}
use Rattle.replay_core.specs.Runs.{fault_in}
use Rattle.replay_core.specs.Noting.{Noting, noted_fault, noted_reading}

-- a line with this reading has no event, or an event that a kernel can run
abbrev pub IsRunnable : Result (Option Event) LineFault → Type 0
IsRunnable (Ok (Some event)) = HasPattern event
IsRunnable (Ok None) = Unit {0}
IsRunnable (Err fault) = Unit {0}

abbrev pub AreLines : List (List ℕ) → Type 0
AreLines [] = Unit {0}
AreLines (line ∷ lines) = IsOneLine line × AreLines lines

-- the counts of a run
abbrev pub tally_of_run : {N : Type 0} → Run N → Tally
tally_of_run run = record { lines = run.lines; events = run.events; faults = run.faults; written = run.replies.written }

-- the drain has not failed, and the count of lines stays below 2 ^ 64 after `lines` more lines
pub record IsReady {N : Type 0} (failed : Bool) (run : Run N) (lines : ℕ) : Type 0 where
  pub fine : failed ≡ false
  pub more : run.lines + lines < 2 ^ 64

-- A line with this reading was run and counted. The text that it shows is `taken ++ rest`, of which the drain took only `taken`.
-- If the line is faulty, its number, its fault and `front` are noted. A shown refusal is noted too.
pub record AnswersRead {N : Type 0} (noting : Noting N) (front : List ℕ) (s : Run N × KernelContent) (reading : Result (Option Event) LineFault)
    (taken rest : List ℕ) (s' : Run N × KernelContent) : Type 0 where
  pub sizes : SameSizes s.1 s'.1
  pub shows : (w : World) → Shows s.1 w → Shows s'.1 (world_after cache_limit s.1.order w (event_in reading))
  pub shown : (w : World) → Shows s.1 w → shown_reading s.0.replies.only cache_limit s.1.order reading w ≡ taken ++ rest
  pub lines : s'.0.lines ≡ s.0.lines + 1
  pub events : s'.0.events ≡ s.0.events + length (event_in reading)
  pub faults : s'.0.faults ≡ s.0.faults + fault_in reading
  pub written : s'.0.replies.written ≡ s.0.replies.written + length taken
  pub same : s'.0.replies.only ≡ s.0.replies.only
  pub noted : (w : World) → Shows s.1 w
      → s'.0.notes ≡ noted_reading noting s.0.replies.only cache_limit s.1.order (s.0.lines + 1) front reading w s.0.notes

-- `AnswersRead` for a line that is given by its bytes; its front is its first 256 bytes
abbrev pub answers : {N : Type 0} → Noting N → Run N × KernelContent → List ℕ → List ℕ → List ℕ → Run N × KernelContent → Type 0
answers noting s line taken rest s' = AnswersRead noting (take 256 line) s (reading_of line) taken rest s'

-- `line` is the part that was read of a line whose end could not be read. If this part reads as a faulty line, the fault is
-- noted. Nothing else in the run changes.
abbrev pub IsUnended : {N : Type 0} → Noting N → Run N → List ℕ → Run N → Type 0
IsUnended noting run line run' = run' ≡ record run { notes = noted_fault noting (run.lines + 1) (take 256 line) (reading_of line) run.notes }
