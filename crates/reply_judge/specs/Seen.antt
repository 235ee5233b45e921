-- The state of a tenant, as it is stored and as the definitions have it, and its invariant.
use Rattle.std.specs.Prelude.{◌≡◌, ℕ, ◌<◌, ◌≤◌, ◌==◌, Bool, false, List, Option, slice_index_or}
use Rattle.std.specs.List.{list_any}
use Rattle.model_core.specs.Elements.{IsIn}
use Rattle.words_core.specs.declared.report.Report.{Report}
use Rattle.model_core.specs.declared.limits.TheConstants.{MAX_CACHES, MAX_ORDER}
use Rattle.promise_core.specs.Lying.{IsLaid, AllGridded}
use Rattle.promise_core.specs.Holdings.{KnownCache, Holdings, has_slot}
use Rattle.promise_core.specs.State.{State, opening_state}
use Rattle.shadow_memory.specs.Left.{Left, left_at, left_slots}

-- the stored state of a tenant
pub record Seen : Type 0 where
  pub has : Holdings
  pub left : Left
  -- indexed by cache number: whether the cache may have an empty slab
  pub may_have_empty : List Bool
  pub last_report : Option Report

abbrev pub state_of : Seen → State
state_of x = record { has = x.has; cells = left_at x.left; may_have_empty = λ n. slice_index_or x.may_have_empty n false; last_report = x.last_report }

-- the tenant of a machine whose slots have 2 ^ order frames, before the first event
pub record IsOpeningTenant (order : ℕ) (x : Seen) : Type 0 where
  pub sized : x.left.order ≡ order
  pub state : state_of x ≡ opening_state

abbrev pub AreNumbered : Holdings → Type 0
AreNumbered h = (c : KnownCache) → IsIn c h.caches → c.number < MAX_CACHES

-- Shadow memory has exactly the held slots. Page blocks and slabs are in held slots and share no frame. In each slab, the live
-- objects begin at multiples of the chunk from one aligned origin. The numbers of caches are below the limit.
pub record LieInSlots (h : Holdings) (left : Left) : Type 0 where
  pub sized : left.order ≤ MAX_ORDER
  pub slots : (u : ℕ) → list_any (λ v. v == u) (left_slots left) ≡ has_slot h u
  pub laid : IsLaid left.order h
  pub gridded : AllGridded left.order h
  pub numbered : AreNumbered h
