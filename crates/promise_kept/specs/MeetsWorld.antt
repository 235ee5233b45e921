-- What is known of the world of the definitions, and what it means that the world's reply to an event is allowed.
use Rattle.std.specs.Prelude.{◌≡◌, ◌≢◌, ℕ, ◌*◌, ◌^◌, ◌≤◌, length, Some, Ok, slice_get}
use Rattle.std.specs.List.{list_any}
use Rattle.model_core.specs.Machine.{Machine, holds}
use Rattle.model_core.specs.Owners.{is_owner}
use Rattle.model_core.specs.WellFormed.{IsWellFormed}
use Rattle.words_core.specs.declared.event.Event.{Event}
use Rattle.world_core.specs.World.{World, WorldStep, world_step}
use Rattle.promise_core.specs.State.{State, Known}
use Rattle.promise_core.specs.Promises.{named, allowed}
use Rattle.promise_kept.specs.Meets.{Meets}

-- What is known (k) is true of world w. A tenant may have `limit` caches, and slots have 2 ^ order frames.
pub record MeetsWorld (limit order : ℕ) (k : Known) (w : World) : Type 0 where
  -- the limit, the order and the owners that are known are those of the world
  pub known : k ≡ record { limit = limit; order = order; owners = w.owners; states = k.states }
  pub tenants : length k.states ≡ length w.machines
  -- what is known of a tenant is true of its machine
  pub meets : (t : ℕ) (s : State) (m : Machine) → slice_get k.states t ≡ Some s → slice_get w.machines t ≡ Some m
      → Meets order s m
  pub formed : (t : ℕ) (m : Machine) → slice_get w.machines t ≡ Some m → IsWellFormed limit order m
  -- a tenant holds exactly the slots in which it owns a superblock
  pub held : (t u : ℕ) (m : Machine) → slice_get w.machines t ≡ Some m → holds m u ≡ list_any (is_owner t u) w.owners
  -- every place of RAM is below 2 ^ 32
  pub ram : length w.owners * 2 ^ order * 4096 ≤ 2 ^ 32

-- The step's reply is allowed, and what is known after the reply is true of the world after the step. What is known of tenants
-- that the event does not name is unchanged.
pub record IsKeptIn (limit order : ℕ) (event : Event) (k : Known) (step : WorldStep) : Type 0 where
  pub after : Known
  pub is_allowed : allowed event step.reply k ≡ Ok after
  pub meets : MeetsWorld limit order after step.world
  pub others : (t : ℕ) → named event ≢ Some t → slice_get after.states t ≡ slice_get k.states t

-- if what is known is true of a world, `IsKeptIn` is true of the world's step for this event
abbrev pub IsEventKept : ℕ → ℕ → Event → Type 0
IsEventKept limit order event = (k : Known) (w : World) → MeetsWorld limit order k w
    → IsKeptIn limit order event k (world_step limit order event w)
