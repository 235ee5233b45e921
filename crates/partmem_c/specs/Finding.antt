-- Lookups of the superblock in a slot, and of the block at a place.
use Rattle.std.specs.Prelude.{◌≡◌, ℕ, ◌*◌, ◌/◌, ◌^◌, ◌<◌, ◌≤◌, nat_lt, if◌then◌else◌, Option, Some, None, Result, Ok, Err, MatchOption, unwrap_or}
use Rattle.words_core.specs.declared.reply.Refusal.{Refusal}
use Rattle.model_core.specs.Blocks.{block, HasFrame, IsTaken}
use Rattle.buddy_core.specs.Content.{holding_of, taken_of}
use Rattle.words_core.specs.Texts.{number_of_refusal}
use Rattle.kernel_core.specs.declared.frames.FrameKind.{FrameKind}
use Rattle.kernel_core.specs.Content.{KernelContent, superblock_at}
use Rattle.kernel_core.specs.Lookups.{BlockUse, UnheldSlot, FreeFrame, PageBlock, SlabBlock, BlockAround, FoundBlock, AnswersLookup}
use Rattle.partmem_c.specs.declared.status.TheConstants.{DONE, NO_MACHINE}
use Rattle.partmem_c.specs.declared.lookups.TheConstants.{NO_SUCH_SLOT, FREE_FRAME, PAGE_BLOCK, SLAB}
use Rattle.partmem_c.specs.declared.lookups.Block.{Block}
use Rattle.partmem_c.specs.declared.granting.HeldSlot.{HeldSlot}

-- if a lookup succeeds, its value is returned with DONE; if it is refused, `nothing` is returned with the refusal's status
abbrev pub Returns : {A : Type 0} → A → Result A Refusal → ℕ → A → Type 0
Returns nothing (Ok there) status found = (status ≡ DONE) × (found ≡ there)
Returns nothing (Err refusal) status found = (status ≡ number_of_refusal refusal) × (found ≡ nothing)

-- If the storage holds a machine with kernel k, `Finds` relates k to the outcome of the lookup, and `status` and `found` are the
-- status and the value of this outcome. Otherwise they are NO_MACHINE and `nothing`.
abbrev pub LooksUp : {A : Type 0} → A → Option KernelContent → (KernelContent → Result A Refusal → Type 0) → ℕ → A → Type 0
LooksUp nothing None Finds status found = (status ≡ NO_MACHINE) × (found ≡ nothing)
LooksUp {A} nothing (Some k) Finds status found =
    (outcome : Result A Refusal) × Finds k outcome × Returns nothing outcome status found

abbrev pub slot_over : ℕ → Option ℕ → Result HeldSlot Refusal
slot_over slot None = Err Refusal.NoSlot
slot_over slot (Some superblock) = Ok (record { slot = slot; superblock = superblock })

-- the superblock in a slot of a tenant, or the refusal if there is no such tenant or the tenant does not hold the slot
abbrev pub slot_at : KernelContent → ℕ → ℕ → Result HeldSlot Refusal
slot_at k t slot = if nat_lt t k.tenants then slot_over slot (superblock_at k t slot) else Err Refusal.NoTenant

abbrev pub no_block : Block
no_block = record { usage = NO_SUCH_SLOT; place = 0; bytes = 0 }

abbrev pub use_of : FrameKind → ℕ
use_of FrameKind.NotHeld = NO_SUCH_SLOT
use_of FrameKind.Free = FREE_FRAME
use_of FrameKind.Page = PAGE_BLOCK
use_of FrameKind.Full = SLAB
use_of FrameKind.Partial = SLAB
use_of FrameKind.Empty = SLAB

-- The first frame and the order that are reported for a frame in no taken block. If the tenant does not hold the frame's slot,
-- they are those of the slot. Otherwise they are the frame itself and order 0.
abbrev pub untaken : FrameKind → ℕ → ℕ → ℕ × ℕ
untaken FrameKind.NotHeld frame order = (frame / 2 ^ order * 2 ^ order, order)
untaken FrameKind.Free frame order = (frame, 0)
untaken FrameKind.Page frame order = (frame, 0)
untaken FrameKind.Full frame order = (frame, 0)
untaken FrameKind.Partial frame order = (frame, 0)
untaken FrameKind.Empty frame order = (frame, 0)

-- `around` is the first frame and the order of the taken block that contains the frame. If no taken block contains the frame,
-- `around` is what `untaken` returns.
pub record AreAround (k : KernelContent) (t frame : ℕ) (kind : FrameKind) (around : ℕ × ℕ) : Type 0 where
  pub taken : Option (ℕ × ℕ)
  pub block : MatchOption taken (IsTaken (taken_of (holding_of t k.buddy)) frame → ⊥)
      (λ b. (taken_of (holding_of t k.buddy) b.0 ≡ Some b.1) × HasFrame (block b.0 b.1) frame)
  pub is : around ≡ unwrap_or taken (untaken kind frame k.order)

abbrev pub number_of_use : BlockUse → ℕ
number_of_use UnheldSlot = NO_SUCH_SLOT
number_of_use FreeFrame = FREE_FRAME
number_of_use PageBlock = PAGE_BLOCK
number_of_use SlabBlock = SLAB

-- `found` has what the block around the place is in the private machine of the tenant, the block's first place, and its size in
-- bytes
pub record IsBlockAt (k : KernelContent) (t place : ℕ) (found : Block) : Type 0 where
  pub usage : BlockUse
  pub uses : found.usage ≡ number_of_use usage
  pub is : AnswersLookup k t (BlockAround place) (FoundBlock usage found.place found.bytes)

-- the block that contains a tenant's place, or the refusal if there is no such tenant
abbrev pub FindsBlock : KernelContent → ℕ → ℕ → Result Block Refusal → Type 0
FindsBlock k t place (Ok found) = (t < k.tenants) × IsBlockAt k t place found
FindsBlock k t place (Err refusal) = (k.tenants ≤ t) × (refusal ≡ Refusal.NoTenant)
