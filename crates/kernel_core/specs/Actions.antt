-- Actions on a kernel from outside, one after the other, and what a tenant sees of them.
use Rattle.std.specs.Prelude.{◌≡◌, ℕ, ◌<◌, ◌==◌, List, [], ◌∷◌, ◌++◌, Option, Some, map, if◌then◌else◌}
use Rattle.model_core.specs.Machine.{Machine, empty_machine}
use Rattle.model_core.specs.Operations.{write_step}
use Rattle.words_core.specs.declared.reply.Body.{Body}
use Rattle.words_core.specs.declared.event.Event.{Event}
use Rattle.words_core.specs.declared.reply.Reply.{Reply}
use Rattle.world_core.specs.Limits.{cache_limit}
use Rattle.world_core.specs.PrivateStep.{Entry, private_step}
use Rattle.world_core.specs.World.{opening_world}
use Rattle.world_core.specs.OwnList.{own_entries, if_for}
use Rattle.kernel_core.specs.Content.{KernelContent}
use Rattle.kernel_core.specs.Shows.{ShowsMachine, Shows}
use Rattle.kernel_core.specs.Steps.{Steps}
use Rattle.kernel_core.specs.Stores.{IsKernel, Stores, Loads}
use Rattle.kernel_core.specs.Lookups.{Lookup, Outcome, AnswersLookup, answer_to}

pub data Action : Type 0 where
  -- an event is run and gets this reply
  Runs : Event → Reply → Action
  -- a tenant stores these bytes, beginning at a place
  StoresAt : ℕ → ℕ → List ℕ → Action
  -- a tenant loads the byte at a place
  LoadsAt : ℕ → ℕ → ℕ → Action
  -- a tenant looks something up by place, and this is the outcome
  Finds : ℕ → Lookup → Outcome → Action

-- the action leads from kernel k to kernel k'
abbrev pub Acts : KernelContent → Action → KernelContent → Type 0
Acts k (Runs event reply) k' = Steps k event k' reply × IsKernel k'
Acts k (StoresAt t place bytes) k' = Stores k t place bytes k'
Acts k (LoadsAt t place byte) k' = Loads k t place byte × (k' ≡ k)
Acts k (Finds t lookup outcome) k' = AnswersLookup k t lookup outcome × (k' ≡ k)

-- the actions of the list, one after the other, lead from kernel k to kernel k'
abbrev pub AllAct : KernelContent → List Action → KernelContent → Type 0
AllAct k [] k' = k' ≡ k
AllAct k (action ∷ actions) k' = (next : KernelContent) × Acts k action next × AllAct next actions k'

-- one thing that a tenant sees: a reply to the tenant, a byte that the tenant loads, or the outcome of a lookup of the tenant
pub data Sight : Type 0 where
  Told : Body → Sight
  Loaded : Option ℕ → Sight
  Found : Outcome → Sight

abbrev pub sights_in : ℕ → Action → List Sight
sights_in t (Runs event reply) = map Told (if_for t reply.addressee reply.body)
sights_in t (StoresAt named place bytes) = []
sights_in t (LoadsAt named place byte) = if named == t then Loaded (Some byte) ∷ [] else []
sights_in t (Finds named lookup outcome) = if named == t then Found outcome ∷ [] else []

-- all that tenant t sees
abbrev pub sights_of : ℕ → List Action → List Sight
sights_of t [] = []
sights_of t (action ∷ actions) = sights_in t action ++ sights_of t actions

-- one thing that reaches the machine of a tenant: an entry, a store of bytes, a load of a byte, or a lookup
pub data Own : Type 0 where
  Enters : Entry → Own
  Stored : ℕ → List ℕ → Own
  LoadedAt : ℕ → Own
  Sought : Lookup → Own

abbrev pub own_in : ℕ → Action → List Own
own_in t (Runs event reply) = map Enters (own_entries t event reply.body)
own_in t (StoresAt named place bytes) = if named == t then Stored place bytes ∷ [] else []
own_in t (LoadsAt named place byte) = if named == t then LoadedAt place ∷ [] else []
own_in t (Finds named lookup outcome) = if named == t then Sought lookup ∷ [] else []

-- tenant t's own list: all that reaches its machine, without the values of the loaded bytes and the outcomes of the lookups
abbrev pub own_actions : ℕ → List Action → List Own
own_actions t [] = []
own_actions t (action ∷ actions) = own_in t action ++ own_actions t actions

-- what a tenant sees, and its private machine afterwards
pub record OwnSeen : Type 0 where
  pub sights : List Sight
  pub machine : Machine

abbrev pub own_step : ℕ → ℕ → Own → Machine → OwnSeen
own_step limit order (Enters entry) m = record {
  sights = map Told (private_step limit order entry m).replies;
  machine = (private_step limit order entry m).machine;
}
own_step limit order (Stored place bytes) m = record { sights = []; machine = (write_step place bytes m).machine }
own_step limit order (LoadedAt place) m = record { sights = Loaded (m.bytes place) ∷ []; machine = m }
own_step limit order (Sought lookup) m = record { sights = Found (answer_to order lookup m) ∷ []; machine = m }

-- what a tenant with private machine m sees when its own list is run, and the machine afterwards
abbrev pub own_seen : ℕ → ℕ → List Own → Machine → OwnSeen
own_seen limit order [] m = record { sights = []; machine = m }
own_seen limit order (own ∷ owns) m = record {
  sights = (own_step limit order own m).sights ++ (own_seen limit order owns (own_step limit order own m).machine).sights;
  machine = (own_seen limit order owns (own_step limit order own m).machine).machine;
}

-- k is a kernel just after boot, with this number of superblocks and this number of tenants
pub record IsBooted (k : KernelContent) (superblocks tenants : ℕ) : Type 0 where
  pub kernel : IsKernel k
  pub shows : Shows k (opening_world superblocks tenants)

-- From boot on, a tenant sees what its private machine gives for the tenant's own list. Afterwards the machine that the kernel
-- shows for the tenant is the private machine as that list leaves it. The other tenants may do anything.
abbrev pub OwnSights : Type 0
OwnSights = (k k' : KernelContent) (superblocks tenants t : ℕ) (actions : List Action) →
    IsBooted k superblocks tenants → t < tenants → AllAct k actions k' →
    (sights_of t actions ≡ (own_seen cache_limit k.order (own_actions t actions) empty_machine).sights)
    × ShowsMachine k' t (own_seen cache_limit k.order (own_actions t actions) empty_machine).machine

-- So a tenant sees the same on two kernels of the same order if its own lists on the two kernels are equal. The numbers of
-- superblocks and tenants may differ.
abbrev pub SameSights : Type 0
SameSights = (k k' l l' : KernelContent) (superblocks tenants superblocks' tenants' t : ℕ) (actions actions' : List Action) →
    IsBooted k superblocks tenants → IsBooted l superblocks' tenants' → l.order ≡ k.order → t < tenants → t < tenants' →
    AllAct k actions k' → AllAct l actions' l' → own_actions t actions ≡ own_actions t actions' →
    sights_of t actions ≡ sights_of t actions'
