-- The laws of a tenant's own lines, stated with the definitions alone.
use Rattle.std.specs.Prelude.{◌≡◌, ℕ, ◌*◌, ◌^◌, ◌<◌, ◌≤◌, List, filter}
use Rattle.std.specs.List.{flat_map}
use Rattle.words_core.specs.Cutting.{lines_of_trace}
use Rattle.world_core.specs.World.{opening_world}
use Rattle.world_core.specs.OwnList.{own_list}
use Rattle.world_core.specs.Output.{events_of, lines_for, output_of}
use Rattle.world_core.specs.Laws.{opening_history}
use Rattle.own_trace.specs.Kept.{run_lines, is_own_line, own_trace}

-- the entries of the kept lines, in order, are the tenant's own list of the trace
abbrev pub KeptAreOwnList : Type 0
KeptAreOwnList = (limit order superblocks tenants t : ℕ) (trace : List ℕ) →
    flat_map (λ run. own_list t run.exchanges) (filter (is_own_line t) (run_lines limit order (lines_of_trace trace) (opening_world superblocks tenants)))
    ≡ own_list t (opening_history limit order superblocks tenants (events_of (lines_of_trace trace)))

-- If the kept lines of an existing tenant are run alone, on a new machine of the same sizes, the own list there is the own list
-- of the whole trace. This holds if slots have at least 8 frames and RAM has at most 2 ^ 32 bytes.
abbrev pub OwnListAlone : Type 0
OwnListAlone = (limit order superblocks tenants t : ℕ) (trace : List ℕ) → 3 ≤ order → superblocks * 2 ^ order * 4096 ≤ 2 ^ 32 → t < tenants →
    own_list t (opening_history limit order superblocks tenants (events_of (lines_of_trace (own_trace limit order superblocks tenants t trace))))
    ≡ own_list t (opening_history limit order superblocks tenants (events_of (lines_of_trace trace)))

-- If the kept lines are run alone, the tenant gets the same reply lines as in the run of the whole trace. This holds under the
-- conditions of `OwnListAlone`, for at most 2 ^ 64 tenants.
abbrev pub LinesAlone : Type 0
LinesAlone = (limit order superblocks tenants t : ℕ) (trace : List ℕ)
    → 3 ≤ order → superblocks * 2 ^ order * 4096 ≤ 2 ^ 32 → tenants ≤ 2 ^ 64 → t < tenants →
    lines_for t (output_of limit order (own_trace limit order superblocks tenants t trace) (opening_world superblocks tenants))
    ≡ lines_for t (output_of limit order trace (opening_world superblocks tenants))
