-- The world of the definitions keeps the promises at each event, and so in every run from the opening world. Each law is the
-- contract of a function of the module `world_laws`.
use Rattle.std.specs.Prelude.{◌≡◌, ℕ, ◌*◌, ◌^◌, ◌≤◌, List, length, Some, Ok, ⊤}
use Rattle.std.specs.List.{AllByRecursion}
use Rattle.model_core.specs.Runs.{ArePossible}
use Rattle.words_core.specs.declared.event.AdminCommand.{AdminCommand}
use Rattle.words_core.specs.declared.event.Event.{Event}
use Rattle.world_core.specs.PrivateStep.{Entry}
use Rattle.world_core.specs.World.{World, opening_world, world_step, world_after}
use Rattle.world_core.specs.Output.{events_of}
use Rattle.world_core.specs.Laws.{opening_history}
use Rattle.words_core.specs.Cutting.{lines_of_trace}
use Rattle.world_core.specs.Reached.{operations_in}
use Rattle.promise_core.specs.State.{Known, opening}
use Rattle.promise_core.specs.Promises.{named, allowed, all_allowed}
use Rattle.promise_kept.specs.MeetsWorld.{MeetsWorld, IsEventKept}

-- the reply to a grant keeps the promises
abbrev pub GrantIsKept : Type 0
GrantIsKept = (limit order t : ℕ) → IsEventKept limit order (Event.Admin (AdminCommand.Grant t))

-- the reply to a take-back keeps the promises
abbrev pub TakeBackIsKept : Type 0
TakeBackIsKept = (limit order t slot : ℕ) → IsEventKept limit order (Event.Admin (AdminCommand.TakeBack t slot))

-- the reply to a reset keeps the promises
abbrev pub ResetIsKept : Type 0
ResetIsKept = (limit order t : ℕ) → IsEventKept limit order (Event.Admin (AdminCommand.Reset t))

-- the reply to a move keeps the promises
abbrev pub MoveIsKept : Type 0
MoveIsKept = (limit order t slot : ℕ) → IsEventKept limit order (Event.Admin (AdminCommand.Move t slot))

-- the reply with the table of owners keeps the promises
abbrev pub PoolIsKept : Type 0
PoolIsKept = (limit order : ℕ) → IsEventKept limit order (Event.Admin AdminCommand.Pool)

-- the event is possible: if it requests a new cache, the pattern has 1 to 16 bytes
abbrev pub CanBeRequested : Event → Type 0
CanBeRequested (Event.Tenant t command) = ArePossible (operations_in (Entry.Ask command))
CanBeRequested (Event.Admin command) = ⊤

-- The reply to any possible event keeps the promises, if slots have at least 8 frames, as many as the largest slab.
abbrev pub EventIsKept : Type 0
EventIsKept = (limit order : ℕ) (event : Event) → 3 ≤ order → CanBeRequested event → IsEventKept limit order event

-- If an event names a tenant that does not exist, the reply is allowed, and neither the world nor what is known changes.
abbrev pub StrangerChangesNothing : Type 0
StrangerChangesNothing = (limit order t : ℕ) (event : Event) (k : Known) (w : World) → MeetsWorld limit order k w
    → named event ≡ Some t → length w.machines ≤ t
    → (allowed event (world_step limit order event w).reply k ≡ Ok k) × ((world_step limit order event w).world ≡ w)

-- Every reply in the run of these events from the opening world is allowed. What is known after the run is true of the world
-- after the run.
pub record IsKeptRun (limit order superblocks tenants : ℕ) (events : List Event) : Type 0 where
  pub after : Known
  pub are_allowed : all_allowed (opening_history limit order superblocks tenants events)
      (Ok (opening limit order superblocks tenants)) ≡ Ok after
  pub meets : MeetsWorld limit order after (world_after limit order (opening_world superblocks tenants) events)

-- In a run of possible events from the opening world, every reply is allowed, if slots have at least 8 frames and RAM has at most
-- 2 ^ 32 places.
abbrev pub KeepsPromises : Type 0
KeepsPromises = (limit order superblocks tenants : ℕ) (events : List Event)
    → 3 ≤ order → superblocks * 2 ^ order * 4096 ≤ 2 ^ 32 → AllByRecursion CanBeRequested events
    → IsKeptRun limit order superblocks tenants events

-- In the run of the events of any trace, every reply is allowed, if slots and RAM have the sizes that `KeepsPromises` requires.
abbrev pub TraceKeepsPromises : Type 0
TraceKeepsPromises = (limit order superblocks tenants : ℕ) (trace : List ℕ)
    → 3 ≤ order → superblocks * 2 ^ order * 4096 ≤ 2 ^ 32
    → IsKeptRun limit order superblocks tenants (events_of (lines_of_trace trace))
