-- The size of superblocks, the owner of a superblock as numbers, and the superblock in a slot.
use Rattle.std.specs.Prelude.{ℕ, ◌*◌, ◌^◌, nat_lt, not, if◌then◌else◌, List, [], length, Option, Some, None, is_some}
use Rattle.model_core.specs.declared.limits.TheConstants.{FRAME_BYTES}
use Rattle.model_core.specs.declared.owner.Owner as model
use Rattle.space_core.specs.Content.{owner_at}
use Rattle.kernel_core.specs.Content.{KernelContent, superblock_at}
use Rattle.partmem_c.specs.declared.owners.Owner.{Owner}
use Rattle.partmem_c.specs.declared.status.TheConstants.{DONE, NO_MACHINE, NO_SUPERBLOCK}

-- the size of each superblock of the held machine in bytes, or 0 without a machine
abbrev pub size_of_superblock : Option KernelContent → ℕ
size_of_superblock None = 0
size_of_superblock (Some k) = FRAME_BYTES * 2 ^ k.order

-- the owners of the superblocks of the held machine, or no owners without a machine
abbrev pub owners_held : Option KernelContent → List (Option model.Owner)
owners_held None = []
owners_held (Some k) = k.space.owners

abbrev pub owner_numbers : Option model.Owner → Owner
owner_numbers None = record { is_owned = 0; tenant = 0; slot = 0 }
owner_numbers (Some owner) = record { is_owned = 1; tenant = owner.tenant; slot = owner.slot }

-- the status of a lookup of a superblock's owner: the first error that applies, or else DONE
abbrev pub owner_status : Option KernelContent → ℕ → ℕ
owner_status held superblock =
    if not (is_some held) then NO_MACHINE
    else (if nat_lt superblock (length (owners_held held)) then DONE else NO_SUPERBLOCK)

-- the owner that is reported for this superblock; None if the machine has no superblock with this number
abbrev pub owner_reported : List (Option model.Owner) → ℕ → Option Owner
owner_reported owners superblock =
    if nat_lt superblock (length owners) then Some (owner_numbers (owner_at owners superblock)) else None

-- the superblock in slot u of tenant t of the held machine; None without a machine
abbrev pub superblock_held : Option KernelContent → ℕ → ℕ → Option ℕ
superblock_held None t u = None
superblock_held (Some k) t u = superblock_at k t u
