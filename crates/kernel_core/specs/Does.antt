-- What a call for one tenant does to the parts of a kernel.
use Rattle.std.specs.Prelude.{◌≡◌, ◌≢◌, ℕ, List, Option, Some, None, slice_set}
use Rattle.model_core.specs.declared.owner.Owner.{Owner}
use Rattle.model_core.specs.Machine.{Machine, empty_machine}
use Rattle.model_core.specs.Operations.{Step, next_slot, after_grant}
use Rattle.model_core.specs.Owners.{owned_by}
use Rattle.space_core.specs.Laws.{SpareStays}
use Rattle.kernel_core.specs.Content.{KernelContent, SameSizes, MarksFollow, Keeps, superblock_at}
use Rattle.kernel_core.specs.Shows.{ShowsMachine}

-- The call does this step of a private machine. If the parts showed machine m for tenant t before the call, they show the machine
-- that the step makes of m, and the call returned the step's answer. All other tenants keep everything. `owned` is the list of
-- the superblocks' owners after the call. A superblock that lost its owner is marked, and a superblock that got an owner is
-- unmarked. A superblock without an owner keeps its bytes.
pub record Does {A : Type 0} (old : KernelContent) (t : ℕ) (step : Machine → Step A) (owned : List (Option Owner))
    (new : KernelContent) (told : A) : Type 0 where
  pub sizes : SameSizes old new
  pub shows : (m : Machine) → ShowsMachine old t m → ShowsMachine new t (step m).machine
  pub answer : (m : Machine) → ShowsMachine old t m → told ≡ (step m).answer
  pub others : (u : ℕ) → u ≢ t → Keeps old new u
  pub owners : new.space.owners ≡ owned
  pub marks : MarksFollow old.space new.space
  pub spare : SpareStays old.space new.space

-- The steps of the administrator's calls, which are not commands of a tenant

-- a superblock is granted in the lowest slot that is not held
abbrev pub slot_grant_step : ℕ → Machine → Step ℕ
slot_grant_step order m = record { answer = next_slot m; machine = after_grant order m }

-- everything that the tenant has is taken back
abbrev pub machine_reset_step : Machine → Step (Unit {0})
machine_reset_step m = record { answer = tt; machine = empty_machine }

abbrev pub no_step : Machine → Step (Unit {0})
no_step m = record { answer = tt; machine = m }

-- slot u of tenant t is moved to superblock `to`; the superblock that was in the slot before has no owner afterwards
pub record Moves (old : KernelContent) (t u to : ℕ) (new : KernelContent) : Type 0 where
  pub from : ℕ
  pub under : superblock_at old t u ≡ Some from
  pub does : Does old t no_step (slice_set (slice_set old.space.owners from None) to (Some (owned_by t u))) new tt
