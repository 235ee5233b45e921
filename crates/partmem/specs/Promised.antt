-- The output of a run of the program keeps the promises. They leave open which block or object a request gets, and when empty
-- slabs are freed; only the definitions fix this.
use Rattle.std.specs.Prelude.{◌≡◌, ℕ, List, [], ◌++◌}
use Rattle.words_core.specs.Cutting.{lines_of_trace}
use Rattle.world_core.specs.Limits.{cache_limit}
use Rattle.world_core.specs.Output.{ended_lines}
use Rattle.promise_kept.specs.Written.{IsAllowedText}
use Rattle.command_line.specs.declared.outcome.Outcome.{Outcome}
use Rattle.command_line.specs.declared.machine_options.MachineOptions.{MachineOptions}

-- the text is that of allowed replies to these lines on a new machine: all replies, or those to one tenant if `only` is given
abbrev pub AreAllowed : MachineOptions → List (List ℕ) → List ℕ → Type 0
AreAllowed m lines text =
    IsAllowedText m.only cache_limit m.config.order m.config.superblocks m.config.tenants lines text

-- `written` is what a run with this outcome may write for the bytes `given`; ⊥ for outcomes that do not occur
abbrev pub WritesAllowed : MachineOptions → Outcome → List ℕ → List ℕ → Type 0
WritesAllowed m Outcome.Done given written = AreAllowed m (lines_of_trace given) written
WritesAllowed m Outcome.Unreadable given written = AreAllowed m (ended_lines given) written
WritesAllowed m Outcome.Unwritable given written = (rest : List ℕ) × AreAllowed m (lines_of_trace given) (written ++ rest)
WritesAllowed m Outcome.NoMemory given written = (given ≡ []) × (written ≡ [])
WritesAllowed m (Outcome.Help text) given written = ⊥
WritesAllowed m (Outcome.Version text) given written = ⊥
WritesAllowed m (Outcome.BadLine text) given written = ⊥
WritesAllowed m Outcome.BadOnly given written = ⊥
