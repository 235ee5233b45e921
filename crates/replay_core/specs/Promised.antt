-- What the drain takes in a replay keeps the promises. The promises do not say which block or which object a request gets, or
-- which frames are freed: only the definitions decide this.
use Rattle.std.specs.Prelude.{ℕ, ◌≤◌, Bool, List, ◌++◌, Option, Result, Ok, Err}
use Rattle.words_core.specs.Cutting.{lines_of_trace}
use Rattle.kernel_core.specs.Content.{KernelContent}
use Rattle.kernel_core.specs.Shows.{Shows}
use Rattle.world_core.specs.Limits.{cache_limit}
use Rattle.world_core.specs.World.{opening_world}
use Rattle.world_core.specs.Output.{ended_lines}
use Rattle.promise_kept.specs.Written.{IsAllowedText}
use Rattle.streams.specs.declared.tally.Tally.{Tally}
use Rattle.streams.specs.declared.tally.ReplayError.{ReplayError}
use Rattle.replay_core.specs.Runs.{Counts, HasCome}

-- if the kernel showed an opening world and a slot has at least 8 frames, `text` is the shown text of allowed replies to these
-- lines
abbrev pub IsAllowedOutput : Option ℕ → KernelContent → List (List ℕ) → List ℕ → Type 0
IsAllowedOutput only before lines text = (superblocks tenants : ℕ) → Shows before (opening_world superblocks tenants) → 3 ≤ before.order
    → IsAllowedText only cache_limit before.order superblocks tenants lines text

-- under the conditions of `IsAllowedOutput`, `part` is a prefix of the shown text of allowed replies to these lines
abbrev pub BeginsAllowed : Option ℕ → KernelContent → List (List ℕ) → List ℕ → Type 0
BeginsAllowed only before lines part = (superblocks tenants : ℕ) → Shows before (opening_world superblocks tenants) → 3 ≤ before.order
    → (rest : List ℕ) × IsAllowedText only cache_limit before.order superblocks tenants lines (part ++ rest)

-- The lines that were run are counted, and the drain took the text of allowed replies to these lines, or only a prefix of this
-- text if the drain failed.
abbrev pub TakesAllowed : Bool → Option ℕ → KernelContent → List ℕ → List ℕ → Result Tally ReplayError → Type 0
TakesAllowed ended only before given taken (Ok tally) =
    Counts tally (lines_of_trace given) taken × IsAllowedOutput only before (lines_of_trace given) taken
TakesAllowed ended only before given taken (Err (ReplayError.Feed tally)) =
    Counts tally (ended_lines given) taken × IsAllowedOutput only before (ended_lines given) taken
TakesAllowed ended only before given taken (Err (ReplayError.Drain tally)) = (lines : List (List ℕ)) × HasCome ended given lines
    × Counts tally lines taken × BeginsAllowed only before lines taken
