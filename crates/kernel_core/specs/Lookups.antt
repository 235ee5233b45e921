-- Lookups by place in the memory of a tenant, and what they find in the tenant's private machine.
use Rattle.std.specs.Prelude.{◌≡◌, ◌⊎◌, ℕ, ◌*◌, ◌/◌, ◌^◌, ◌<◌, ◌≤◌, ◌==◌, Bool, true, false, Option, Some, None, Result, Ok, Err, find, map, flat_map, if◌then◌else◌}
use Rattle.std.specs.List.{list_any}
use Rattle.model_core.specs.declared.limits.TheConstants.{FRAME_BYTES}
use Rattle.model_core.specs.Blocks.{Block, block, slot_block}
use Rattle.model_core.specs.Machine.{Cache, Machine, holds, slot_of, in_block, slab_blocks}
use Rattle.model_core.specs.Slabs.{live_objects, cache_of}
use Rattle.model_core.specs.Reach.{in_reach}
use Rattle.words_core.specs.declared.reply.Refusal.{Refusal}
use Rattle.kernel_core.specs.Content.{KernelContent}
use Rattle.kernel_core.specs.Shows.{ShowsMachine}
use Rattle.kernel_core.specs.Holders.{block_holder, has_byte, holder_at}
use Rattle.kernel_core.specs.declared.lending.Span.{Span}
use Rattle.kernel_core.specs.declared.holders.Holder.{Holder}

-- a lookup by place
pub data Lookup : Type 0 where
  -- the live page block or live object that has the byte at a place
  HolderOf : ℕ → Lookup
  -- a range inside one live page block or one live object: its first place and its number of bytes
  RangeAt : ℕ → ℕ → Lookup
  -- the live page block around a place
  PageAround : ℕ → Lookup
  -- the live object of a cache that begins at a place: the number of the cache, and the place
  ObjectAt : ℕ → ℕ → Lookup
  -- the page block, slab, free frame or slot around a place
  BlockAround : ℕ → Lookup

-- what a block is
pub data BlockUse : Type 0 where
  -- a slot that is not held
  UnheldSlot : BlockUse
  -- a frame of a held slot that is in no taken block
  FreeFrame : BlockUse
  PageBlock : BlockUse
  SlabBlock : BlockUse

-- what a lookup returns
pub data Outcome : Type 0 where
  -- a live page block or a live object
  FoundHolder : Holder → Outcome
  -- a range: its first place and its number of bytes
  FoundRange : ℕ → ℕ → Outcome
  -- a block: what it is, its first place and its number of bytes
  FoundBlock : BlockUse → ℕ → ℕ → Outcome
  Refused : Refusal → Outcome

abbrev pub found_or_refused : {A : Type 0} → (A → Outcome) → Result A Refusal → Outcome
found_or_refused found (Ok it) = found it
found_or_refused found (Err refusal) = Refused refusal

-- the range of a span; and a span that is a page block, or an object of a cache, as a holder
abbrev pub range_in : Span → Outcome
range_in span = FoundRange span.place span.bytes

abbrev pub page_in : Span → Outcome
page_in span = FoundHolder (record { cache = None; place = span.place; bytes = span.bytes })

abbrev pub object_of : ℕ → Span → Outcome
object_of number span = FoundHolder (record { cache = Some number; place = span.place; bytes = span.bytes })

abbrev pub holder_or_refused : Option Holder → Outcome
holder_or_refused None = Refused Refusal.OutOfReach
holder_or_refused (Some holder) = FoundHolder holder

-- the live page block that has the byte at the place
abbrev pub page_at : Machine → ℕ → Option Holder
page_at m place = find (has_byte place) (map block_holder m.blocks)

-- the live object that begins at the place, in the cache with this number
abbrev pub object_in : ℕ → ℕ → Option Cache → Outcome
object_in number place None = Refused Refusal.NoCache
object_in number place (Some c) =
    if list_any (λ object. object.place == place) (live_objects c)
    then FoundHolder (record { cache = Some number; place = place; bytes = c.size }) else Refused Refusal.NotAnObject

abbrev pub found_block : BlockUse → Block → Outcome
found_block usage b = FoundBlock usage (FRAME_BYTES * b.first) (FRAME_BYTES * 2 ^ b.order)

-- the page block or the slab around a frame; if the frame is in neither, the frame if its slot is held, and otherwise the slot
abbrev pub block_or_frame : Option Block → Option Block → Bool → ℕ → ℕ → Outcome
block_or_frame (Some page) slab held order frame = found_block PageBlock page
block_or_frame None (Some slab) held order frame = found_block SlabBlock slab
block_or_frame None None true order frame = found_block FreeFrame (block frame 0)
block_or_frame None None false order frame = found_block UnheldSlot (slot_block order (frame / 2 ^ order))

-- What the lookup finds in the machine. Slots have 2 ^ order frames.
abbrev pub answer_to : ℕ → Lookup → Machine → Outcome
answer_to order (HolderOf place) m = holder_or_refused (holder_at m place)
answer_to order (RangeAt place len) m = if in_reach m place len then FoundRange place len else Refused Refusal.OutOfReach
answer_to order (PageAround place) m = holder_or_refused (page_at m place)
answer_to order (ObjectAt number place) m = object_in number place (cache_of m number)
answer_to order (BlockAround place) m =
    block_or_frame (find (in_block place) m.blocks) (find (in_block place) (flat_map slab_blocks m.caches))
    (holds m (slot_of order place)) order (place / FRAME_BYTES)

-- The outcome of the tenant's lookup is what the lookup finds in the tenant's private machine. If there is no such tenant, it is
-- the refusal `NoTenant`.
abbrev pub AnswersLookup : KernelContent → ℕ → Lookup → Outcome → Type 0
AnswersLookup k t lookup outcome = ((k.tenants ≤ t) × (outcome ≡ Refused Refusal.NoTenant))
    ⊎ ((t < k.tenants) × ((m : Machine) → ShowsMachine k t m → outcome ≡ answer_to k.order lookup m))
