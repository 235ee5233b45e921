-- The owner of a superblock is one slot of one tenant. A superblock may have no owner.
use Rattle.std.specs.Prelude.{ℕ, ◌==◌, ◌&&◌, Bool, false, Option, Some, None}
use Rattle.model_core.specs.declared.owner.Owner.{Owner}

abbrev pub owned_by : ℕ → ℕ → Owner
owned_by tenant slot = record { tenant = tenant; slot = slot }

-- the owner is a slot of tenant t
abbrev pub is_of : ℕ → Option Owner → Bool
is_of t None = false
is_of t (Some owner) = owner.tenant == t

-- the owner is this slot of tenant t
abbrev pub is_owner : ℕ → ℕ → Option Owner → Bool
is_owner t slot None = false
is_owner t slot (Some owner) = owner.tenant == t && owner.slot == slot
