-- The locks that actions need. Two lists of actions in which each lock has the same actions in the same order lead to the same
-- world, and each tenant sees the same.
use Rattle.std.specs.Prelude.{◌≡◌, ℕ, ◌<◌, ◌==◌, Bool, false, List, [], map}
use Rattle.words_core.specs.declared.event.Event.{Event}
use Rattle.world_core.specs.World.{World}
use Rattle.world_core.specs.Locks.{Lock, OfTenant, OfAdministrator, event_needs, HaveSameLocks, Mark, HoldLocks, begun, ended}
use Rattle.kernel_core.specs.Content.{KernelContent}
use Rattle.kernel_core.specs.Shows.{Shows}
use Rattle.kernel_core.specs.Stores.{IsKernel}
use Rattle.kernel_core.specs.Lookups.{Lookup}
use Rattle.kernel_core.specs.Actions.{Action, Runs, StoresAt, LoadsAt, Finds, AllAct, sights_of}

-- an action without its outcome, which is not known when the action begins
pub data Attempt : Type 0 where
  RunEvent : Event → Attempt
  StoreBytes : ℕ → ℕ → List ℕ → Attempt
  LoadByte : ℕ → ℕ → Attempt
  LookUp : ℕ → Lookup → Attempt

-- the action without the reply to the event, the value of the loaded byte, or the outcome of the lookup
abbrev pub attempt_of : Action → Attempt
attempt_of (Runs event reply) = RunEvent event
attempt_of (StoresAt t place bytes) = StoreBytes t place bytes
attempt_of (LoadsAt t place byte) = LoadByte t place
attempt_of (Finds t lookup outcome) = LookUp t lookup

-- the lock is that of this tenant
abbrev pub is_lock_of : ℕ → Lock → Bool
is_lock_of tenant (OfTenant t) = tenant == t
is_lock_of tenant OfAdministrator = false

-- An event needs its locks. A store, a load and a lookup need the lock of their tenant.
abbrev pub attempt_needs : Lock → Attempt → Bool
attempt_needs l (RunEvent event) = event_needs l event
attempt_needs l (StoreBytes tenant place bytes) = is_lock_of tenant l
attempt_needs l (LoadByte tenant place) = is_lock_of tenant l
attempt_needs l (LookUp tenant lookup) = is_lock_of tenant l

abbrev pub action_needs : Lock → Action → Bool
action_needs l action = attempt_needs l (attempt_of action)

-- without their outcomes, both lists have the same actions under each lock, in the same order
abbrev pub AttemptTheSame : List Action → List Action → Type 0
AttemptTheSame actions actions' = HaveSameLocks attempt_needs (map attempt_of actions) (map attempt_of actions')

-- two kernels with superblocks of the same order show the same world
pub record ShowSameWorld (k l : KernelContent) : Type 0 where
  pub kernel : IsKernel k
  pub kernel' : IsKernel l
  pub order : l.order ≡ k.order
  pub world : World
  pub shows : Shows k world
  pub shows' : Shows l world

-- If two kernels show the same world, and two lists of actions attempt the same under each lock, one with each kernel, the kernels
-- show the same world afterwards ..
abbrev pub SameWorldAfterActions : Type 0
SameWorldAfterActions = (k k' l l' : KernelContent) (actions actions' : List Action) → ShowSameWorld k l →
    AllAct k actions k' → AllAct l actions' l' → AttemptTheSame actions actions' → ShowSameWorld k' l'

-- .. under each lock the same actions have the same outcomes, in the same order ..
abbrev pub SameOutcomesInAnyOrder : Type 0
SameOutcomesInAnyOrder = (k k' l l' : KernelContent) (actions actions' : List Action) → ShowSameWorld k l →
    AllAct k actions k' → AllAct l actions' l' → AttemptTheSame actions actions' → HaveSameLocks action_needs actions actions'

-- .. and each tenant sees the same.
abbrev pub SameSightsInAnyOrder : Type 0
SameSightsInAnyOrder = (k k' l l' : KernelContent) (actions actions' : List Action) (t : ℕ) → ShowSameWorld k l → t < k.tenants →
    AllAct k actions k' → AllAct l actions' l' → AttemptTheSame actions actions' → sights_of t actions ≡ sights_of t actions'

-- If each action holds its locks from its beginning to its end, the order in which the actions begin and the order in which they
-- end are two lists with the same locks.
abbrev pub ActionsBegunAsEnded : Type 0
ActionsBegunAsEnded = (marks : List (Mark Attempt)) → HoldLocks attempt_needs [] marks →
    HaveSameLocks attempt_needs (begun marks) (ended marks)
