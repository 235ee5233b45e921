-- The notes that a run of the program takes: the refusals that it shows, and the faulty lines.
use Rattle.std.specs.Prelude.{◌≡◌, ◌⊎◌, ℕ, suc, Bool, List, [], ◌++◌, length, take}
use Rattle.words_core.specs.Cutting.{lines_of_trace}
use Rattle.words_core.specs.Grammar.{reading_of}
use Rattle.world_core.specs.Limits.{cache_limit}
use Rattle.world_core.specs.World.{opening_world}
use Rattle.world_core.specs.Output.{ended_lines, with_line_feeds}
use Rattle.replay_core.specs.Noting.{Noting, noted_fault, noted_lines}
use Rattle.replay_core.specs.Runs.{HasCome}
use Rattle.command_line.specs.declared.outcome.Outcome.{Outcome}
use Rattle.command_line.specs.declared.machine_options.MachineOptions.{MachineOptions}

-- `notes`, and then the notes of these lines on a new machine: the refusals that are shown, and the faulty lines
abbrev pub with_notes : {N : Type 0} → Noting N → MachineOptions → List (List ℕ) → N → N
with_notes noting m lines notes =
    noted_lines noting m.only cache_limit m.config.order 1 lines (opening_world m.config.superblocks m.config.tenants) notes

-- The notes `notes`, to which the fault of `tail` is added if `tail` is faulty. `tail` is an unfinished line that follows these
-- lines.
abbrev pub with_unended : {N : Type 0} → Noting N → List (List ℕ) → List ℕ → N → N
with_unended noting lines tail notes = noted_fault noting (suc (length lines)) (take 256 tail) (reading_of tail) notes

-- `notes'` are the notes after a run with this outcome: `notes`, and then the notes of the `count` lines that were run.
-- If reading the trace failed, an unfinished line that is faulty is noted too. Such a run has the outcome `Unreadable`, or
-- `Unwritable` if a send had failed before.
abbrev pub HasNoted : {N : Type 0} → Noting N → MachineOptions → Outcome → ℕ → Bool → List ℕ → N → N → Type 0
HasNoted noting m Outcome.Done count ended given notes notes' = notes' ≡ with_notes noting m (lines_of_trace given) notes
HasNoted noting m Outcome.Unreadable count ended given notes notes' = (tail : List ℕ) × (given ≡ with_line_feeds (ended_lines given) ++ tail)
    × (notes' ≡ with_unended noting (ended_lines given) tail (with_notes noting m (ended_lines given) notes))
HasNoted noting m Outcome.Unwritable count ended given notes notes' = (lines : List (List ℕ)) × (tail : List ℕ)
    × HasCome ended given lines × (length lines ≡ count) × ((tail ≡ []) ⊎ (given ≡ with_line_feeds lines ++ tail))
    × (notes' ≡ with_unended noting lines tail (with_notes noting m lines notes))
HasNoted noting m Outcome.NoMemory count ended given notes notes' = notes' ≡ notes
HasNoted noting m (Outcome.Help text) count ended given notes notes' = ⊥
HasNoted noting m (Outcome.Version text) count ended given notes notes' = ⊥
HasNoted noting m (Outcome.BadLine text) count ended given notes notes' = ⊥
HasNoted noting m Outcome.BadOnly count ended given notes notes' = ⊥
