-- The numbers of lines and events that are counted while a trace runs.
use Rattle.std.specs.Prelude.{◌≡◌, ℕ, ◌+◌, ◌^◌, ◌<◌, List, [], length}
use Rattle.words_core.specs.Grammar.{reading_of}
use Rattle.world_core.specs.Output.{event_in, events_of}
use Rattle.kernel_core.specs.Content.{KernelContent}
use Rattle.frame_picture.specs.Histories.{line_count}
use Rattle.framemap.specs.declared.watched.Watched.{Watched}

-- The line writes nothing. Its event is counted, if it has one. The history's number of lines grows by `more`, if it stays below
-- 2 ^ 32.
pub record WatchesLine (more : ℕ) (s : Watched × KernelContent) (line taken rest : List ℕ) (s' : Watched × KernelContent) : Type 0 where
  pub silent : taken ≡ []
  pub whole : rest ≡ []
  pub events : s'.0.events ≡ s.0.events + length (event_in (reading_of line))
  pub lines : line_count s.0.history + more < 2 ^ 32 → line_count s'.0.history ≡ line_count s.0.history + more

-- the effect of a line, including its addition to the history
abbrev pub watches : Watched × KernelContent → List ℕ → List ℕ → List ℕ → Watched × KernelContent → Type 0
watches = WatchesLine 1

-- the effect of a line before it is added to the history
abbrev pub watches_first : Watched × KernelContent → List ℕ → List ℕ → List ℕ → Watched × KernelContent → Type 0
watches_first = WatchesLine 0

-- The events of all these lines were counted. The lines were counted too, if the history's number of lines stays below 2 ^ 32.
pub record HasWatched (done : List (List ℕ)) (old new : Watched) : Type 0 where
  pub events : new.events ≡ old.events + length (events_of done)
  pub lines : line_count old.history + length done < 2 ^ 32 → line_count new.history ≡ line_count old.history + length done
