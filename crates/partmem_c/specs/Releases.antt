-- Calls that free by place.
use Rattle.std.specs.Prelude.{◌≡◌, ◌⊎◌, ℕ, ◌+◌, ◌*◌, ◌%◌, ◌^◌, List, Option, Some, None, Result, Ok, Err}
use Rattle.words_core.specs.Texts.{number_of_refusal}
use Rattle.words_core.specs.declared.reply.Refusal.{Refusal}
use Rattle.kernel_core.specs.declared.holders.Holder.{Holder}
use Rattle.kernel_core.specs.Content.{KernelContent, superblock_at}
use Rattle.kernel_core.specs.Releasing.{Releases}
use Rattle.partmem_c.specs.declared.status.TheConstants.{DONE, NO_MACHINE}
use Rattle.partmem_c.specs.declared.holders.HolderNumbers.{HolderNumbers}
use Rattle.partmem_c.specs.declared.owners.TheConstants.{OF_NO_SLOT}
use Rattle.partmem_c.specs.Calls.{block_bytes}
use Rattle.partmem_c.specs.Holders.{no_holder, numbers_of_holder}

-- what was freed is returned with DONE; if nothing was, zeroes are returned with the refusal's status
abbrev pub TellsFreed : Result Holder Refusal → ℕ → HolderNumbers → Type 0
TellsFreed (Ok holder) status freed = (status ≡ DONE) × (freed ≡ numbers_of_holder holder)
TellsFreed (Err refusal) status freed = (status ≡ number_of_refusal refusal) × (freed ≡ no_holder)

-- the held kernel did what its call that frees by place does, and `status` and `freed` are the status and the numbers of the outcome
pub record FreesIn (old : KernelContent) (tenant place : ℕ) (sizes : List ℕ) (new : Option KernelContent) (status : ℕ) (freed : HolderNumbers)
    : Type 0 where
  pub after : KernelContent
  pub is : new ≡ Some after
  pub outcome : Result Holder Refusal
  pub releases : Releases old tenant place sizes after outcome
  pub tells : TellsFreed outcome status freed

-- without a machine the status is NO_MACHINE, the numbers are zeroes, and there is no machine afterwards
abbrev pub FreesPlace : Option KernelContent → ℕ → ℕ → List ℕ → Option KernelContent → ℕ → HolderNumbers → Type 0
FreesPlace None tenant place sizes new status freed = (new ≡ None) × (status ≡ NO_MACHINE) × (freed ≡ no_holder)
FreesPlace (Some k) tenant place sizes new status freed = FreesIn k tenant place sizes new status freed

-- the place of the byte at an offset in a slot of this many bytes, as a number of 32 bits
abbrev pub place_of_byte : ℕ → ℕ → ℕ → ℕ
place_of_byte bytes slot offset = (bytes * slot % 2 ^ 32 + offset) % 2 ^ 32

-- no slot of the tenant has the superblock
abbrev pub IsUnderNoSlot : KernelContent → ℕ → ℕ → Type 0
IsUnderNoSlot k tenant superblock = (slot : ℕ) → superblock_at k tenant slot ≡ Some superblock → ⊥

-- The call frees by the place of a byte of a superblock. If no slot of the tenant has the superblock, nothing changes, the status
-- is OF_NO_SLOT, and the numbers are zeroes. Without a machine they are those of `FreesPlace`.
abbrev pub FreesUnder : Option KernelContent → ℕ → ℕ → ℕ → List ℕ → Option KernelContent → ℕ → HolderNumbers → Type 0
FreesUnder None tenant superblock offset sizes new status freed = (new ≡ None) × (status ≡ NO_MACHINE) × (freed ≡ no_holder)
FreesUnder (Some k) tenant superblock offset sizes new status freed =
    ((slot : ℕ) × (superblock_at k tenant slot ≡ Some superblock)
    × FreesIn k tenant (place_of_byte (block_bytes k.order) slot offset) sizes new status freed)
    ⊎ (IsUnderNoSlot k tenant superblock × (new ≡ Some k) × (status ≡ OF_NO_SLOT) × (freed ≡ no_holder))
