-- The locks that calls of the library need, and what two lists of calls with the same locks have in common.
use Rattle.std.specs.Prelude.{ℕ, ◌≡◌, ◌<◌, List, [], ◌∷◌, flat_map, Option, Some, None, Result, Ok, Err}
use Rattle.words_core.specs.declared.event.Event as events
use Rattle.words_core.specs.declared.event.LineFault.{LineFault}
use Rattle.words_core.specs.Grammar.{reading_of}
use Rattle.world_core.specs.Locks.{HaveSameLocks}
use Rattle.kernel_core.specs.Content.{KernelContent}
use Rattle.kernel_core.specs.Lookups.{HolderOf, RangeAt, PageAround, ObjectAt, BlockAround}
use Rattle.kernel_core.specs.Actions.{Action, sights_of}
use Rattle.kernel_core.specs.ActionLocks.{Attempt, RunEvent, LookUp, attempt_of, attempt_needs, action_needs, ShowSameWorld}
use Rattle.partmem_c.specs.Events.{requested_event}
use Rattle.partmem_c.specs.Actions.{Done, Line, Event, Call, FindObject, FindBlock, Lend, LendBlock, LendObject, Direct, AllDid, AreOf}

abbrev pub attempt_of_event : Option events.Event → List Attempt
attempt_of_event (Some event) = RunEvent event ∷ []
attempt_of_event None = []

-- a line without an event attempts nothing
abbrev pub attempt_of_reading : Result (Option events.Event) LineFault → List Attempt
attempt_of_reading (Ok event) = attempt_of_event event
attempt_of_reading (Err fault) = []

-- what one thing that was done attempted, without its outcome
abbrev pub attempts_in : Done → List Attempt
attempts_in (Line line text) = attempt_of_reading (reading_of line)
attempts_in (Event a bytes numbers buffer buffer') = attempt_of_event (requested_event a bytes)
attempts_in (Call event reply status) = RunEvent event ∷ []
attempts_in (FindObject t place outcome) = LookUp t (HolderOf place) ∷ []
attempts_in (FindBlock t place outcome) = LookUp t (BlockAround place) ∷ []
attempts_in (Lend t place len outcome) = LookUp t (RangeAt place len) ∷ []
attempts_in (LendBlock t place outcome) = LookUp t (PageAround place) ∷ []
attempts_in (LendObject t cache place outcome) = LookUp t (ObjectAt cache place) ∷ []
attempts_in (Direct action) = attempt_of action ∷ []

-- Both lists are lists of actions. Under each lock, the same actions have the same outcomes, in the same order. Each tenant sees the
-- same. Afterwards, the two kernels show the same world.
pub record DidTheSame (tenants : ℕ) (all all' : List Done) (k l : KernelContent) : Type 0 where
  pub actions : List Action
  pub actions' : List Action
  pub are : AreOf all actions
  pub are' : AreOf all' actions'
  pub outcomes : HaveSameLocks action_needs actions actions'
  pub sights : (t : ℕ) → t < tenants → sights_of t actions ≡ sights_of t actions'
  pub world : ShowSameWorld k l

-- If two kernels show the same world, and two lists of calls attempt the same under each lock, one with each kernel, then both do
-- the same.
abbrev pub SameCallsInAnyOrder : Type 0
SameCallsInAnyOrder = (k k' l l' : KernelContent) (all all' : List Done) → ShowSameWorld k l → AllDid k all k' → AllDid l all' l' →
    HaveSameLocks attempt_needs (flat_map attempts_in all) (flat_map attempts_in all') → DidTheSame k.tenants all all' k' l'
