-- Direct calls: each runs an event, and the call's results follow from the numbers and bytes of the reply.
use Rattle.std.specs.Prelude.{◌≡◌, ◌<◌, ◌≤◌, ℕ, ◌+◌, ◌-◌, ◌*◌, ◌/◌, ◌%◌, ◌^◌, ◌==◌, nat_le, min, ◌&&◌, Bool, if◌then◌else◌, List, [], ◌++◌, length, take, drop, Option, Some, None, is_some}
use Rattle.words_core.specs.declared.reply.Addressee.{Addressee}
use Rattle.words_core.specs.declared.reply.Body.{Body}
use Rattle.words_core.specs.declared.event.Command.{Command}
use Rattle.words_core.specs.declared.event.Event.{Event}
use Rattle.words_core.specs.declared.reply.Refusal.{Refusal}
use Rattle.words_core.specs.declared.reply.Reply.{Reply}
use Rattle.model_core.specs.declared.limits.TheConstants.{FRAME_BYTES, WIDE_ORDER, MAX_BYTES}
use Rattle.world_core.specs.Limits.{cache_limit}
use Rattle.world_core.specs.World.{World, world_step}
use Rattle.kernel_core.specs.Content.{KernelContent}
use Rattle.kernel_core.specs.Shows.{Shows}
use Rattle.kernel_core.specs.Steps.{Steps}
use Rattle.kernel_core.specs.Stores.{IsKernel}
use Rattle.partmem_c.specs.declared.status.TheConstants.{DONE, NO_MACHINE, NOT_AN_EVENT}
use Rattle.partmem_c.specs.declared.kinds.TheConstants.{REFUSED, MADE, REAPED}
use Rattle.partmem_c.specs.declared.telling.ReplyNumbers.{ReplyNumbers}
use Rattle.partmem_c.specs.declared.granting.HeldSlot.{HeldSlot}
use Rattle.partmem_c.specs.declared.pages.TheConstants.{NO_FRAME}
use Rattle.partmem_c.specs.declared.objects.MadeCache.{MadeCache}
use Rattle.partmem_c.specs.Events.{numbers_of_body, answered_bytes}

-- the held kernel ran this event and gave this reply
pub record IsRun (old : Option KernelContent) (event : Event) (new : Option KernelContent) (reply : Reply) : Type 0 where
  pub before : KernelContent
  pub after : KernelContent
  pub was : old ≡ Some before
  pub is : new ≡ Some after
  pub steps : Steps before event after reply

-- The reply to the event of a call. Without a machine there is no reply, and nothing changes.
abbrev pub Replies : Option KernelContent → Event → Option KernelContent → Option Reply → Type 0
Replies old event new None = (old ≡ None) × (new ≡ None)
Replies old event new (Some reply) = IsRun old event new reply

-- The call runs this event and returns what `Returns` says for the reply.
pub record RunsCall (old : Option KernelContent) (event : Event) (new : Option KernelContent) (Returns : Option Reply → Type 0)
    : Type 0 where
  pub reply : Option Reply
  pub replies : Replies old event new reply
  pub returns : Returns reply

-- the numbers of the reply, if there is one
abbrev pub numbers_in_reply : Option Reply → Option ReplyNumbers
numbers_in_reply None = None
numbers_in_reply (Some reply) = Some (numbers_of_body reply.body)

-- the bytes of the reply; without a reply there are none
abbrev pub bytes_in_reply : Option Reply → List ℕ
bytes_in_reply None = []
bytes_in_reply (Some reply) = answered_bytes reply.body

-- The arguments of the call are not those of an event, and nothing changes. The status is NOT_AN_EVENT, or NO_MACHINE if there is
-- no machine.
abbrev pub IsNoEvent : Option KernelContent → Option KernelContent → ℕ → Type 0
IsNoEvent old new status = (new ≡ old) × (status ≡ (if is_some old then NOT_AN_EVENT else NO_MACHINE))

-- the status of a call with this reply: NO_MACHINE if there is no reply, the number of the refusal if it is one, otherwise DONE
abbrev pub call_status : Option ReplyNumbers → ℕ
call_status None = NO_MACHINE
call_status (Some numbers) = if numbers.kind == REFUSED then numbers.first else DONE

-- The results of calls: all zeroes if there is no machine, or if the command is refused.

abbrev pub no_slot : HeldSlot
no_slot = record { slot = 0; superblock = 0 }

abbrev pub returned_slot : ℕ → Option ReplyNumbers → HeldSlot
returned_slot kind None = no_slot
returned_slot kind (Some numbers) =
    if numbers.kind == kind then record { slot = numbers.second; superblock = numbers.third } else no_slot

-- the number of bytes in a block of this order; an order above WIDE_ORDER counts as WIDE_ORDER
abbrev pub block_bytes : ℕ → ℕ
block_bytes order = FRAME_BYTES * 2 ^ min order WIDE_ORDER

abbrev pub made_cache : Option ReplyNumbers → MadeCache
made_cache None = record { cache = 0; chunk = 0; slab_bytes = 0; objects = 0; colours = 0 }
made_cache (Some numbers) =
    if numbers.kind == MADE then record {
      cache = numbers.first;
      chunk = numbers.second;
      slab_bytes = block_bytes numbers.third;
      objects = numbers.fourth;
      colours = numbers.fifth;
    }
    else record { cache = 0; chunk = 0; slab_bytes = 0; objects = 0; colours = 0 }

abbrev pub reaped_frames : Option ReplyNumbers → ℕ
reaped_frames None = 0
reaped_frames (Some numbers) = if numbers.kind == REAPED then numbers.first else 0

-- the buffer `to` after `bytes` are copied to its front, as many as fit
abbrev pub read_over : List ℕ → List ℕ → List ℕ
read_over bytes to = take (min (length bytes) (length to)) bytes ++ drop (min (length bytes) (length to)) to

-- The kernel ran this event, and `numbers` are the numbers of the reply. The reply has at most 64 bytes. As many of these bytes
-- as fit are copied over the front of the buffer.
pub record ReadsOver (old : KernelContent) (event : Event) (new : KernelContent) (numbers : ReplyNumbers) (to to' : List ℕ)
    : Type 0 where
  pub reply : Reply
  pub steps : Steps old event new reply
  pub are : numbers ≡ numbers_of_body reply.body
  pub few : length (answered_bytes reply.body) ≤ MAX_BYTES
  pub over : to' ≡ read_over (answered_bytes reply.body) to

-- the number of bytes that a read into a buffer of `len` bytes requests
abbrev pub read_length : ℕ → ℕ
read_length len = min len (2 ^ 32 - 1)

-- whether there are 1 to 64 of these bytes, so that one write can write them
abbrev pub is_writable : List ℕ → Bool
is_writable bytes = nat_le 1 (length bytes) && nat_le (length bytes) MAX_BYTES

-- The number of the frame that begins at a place. If no frame begins there, it is a number above that of any frame.
abbrev pub frame_at_place : ℕ → ℕ
frame_at_place place = place / FRAME_BYTES + place % FRAME_BYTES * NO_FRAME

-- If an existing tenant frees a place where no frame begins, the reply is the refusal `NotABlock`.
abbrev pub OffsetsAreRefused : Type 0
OffsetsAreRefused = (k : KernelContent) (w : World) (t place : ℕ) →
    IsKernel k → Shows k w → t < k.tenants → 0 < place % FRAME_BYTES →
    (world_step cache_limit k.order (Event.Tenant t (Command.Free (frame_at_place place))) w).reply
    ≡ record { addressee = Addressee.Tenant t; body = Body.Refused Refusal.NotABlock }
