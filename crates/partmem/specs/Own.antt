-- The output of a run of the program with `--own`.
use Rattle.std.specs.Prelude.{◌≡◌, ℕ, List, []}
use Rattle.words_core.specs.Cutting.{lines_of_trace}
use Rattle.model_core.specs.declared.config.Config.{Config}
use Rattle.world_core.specs.Limits.{cache_limit}
use Rattle.world_core.specs.World.{opening_world}
use Rattle.world_core.specs.Output.{ended_lines}
use Rattle.own_trace.specs.Kept.{own_text, own_trace}
use Rattle.command_line.specs.declared.outcome.Outcome.{Outcome}
use Rattle.partmem.specs.Run.{IsBeginning}

-- the text of tenant t's own list if these lines run on a new machine
abbrev pub own_of : Config → ℕ → List (List ℕ) → List ℕ
own_of config t lines = own_text t cache_limit config.order lines (opening_world config.superblocks config.tenants)

-- `written` is what a run with this outcome may write for the bytes `given`; ⊥ for outcomes that do not occur
abbrev pub WritesOwn : Config → ℕ → Outcome → List ℕ → List ℕ → Type 0
WritesOwn config t Outcome.Done given written = written ≡ own_trace cache_limit config.order config.superblocks config.tenants t given
WritesOwn config t Outcome.Unreadable given written = written ≡ own_of config t (ended_lines given)
WritesOwn config t Outcome.Unwritable given written = IsBeginning written (own_of config t (lines_of_trace given))
WritesOwn config t Outcome.NoMemory given written = (given ≡ []) × (written ≡ [])
WritesOwn config t (Outcome.Help text) given written = ⊥
WritesOwn config t (Outcome.Version text) given written = ⊥
WritesOwn config t (Outcome.BadLine text) given written = ⊥
WritesOwn config t Outcome.BadOnly given written = ⊥
