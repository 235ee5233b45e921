-- The laws that follow from the promises alone, for every program that keeps them.
use Rattle.std.specs.Prelude.{◌≡◌, ◌≤◌, is_ok, ℕ, ◌+◌, ◌-◌, ◌/◌, ◌^◌, Bool, true, false, not, List, [], ◌∷◌, length, Contains, Option, Some, None, Ok, slice_get, slice_index, nat_le, nat_lt, ◌&&◌, ◌||◌, ◌==◌}
use Rattle.std.specs.List.{list_any}
use Rattle.arrayvec.specs.ArrayVec.{ArrayVec}
use Rattle.model_core.specs.Blocks.{Block, HasFrame, IsAligned}
use Rattle.model_core.specs.Machine.{slot_of}
use Rattle.words_core.specs.declared.reply.Addressee.{Addressee}
use Rattle.words_core.specs.declared.event.AdminCommand.{AdminCommand}
use Rattle.words_core.specs.declared.reply.Body.{Body}
use Rattle.words_core.specs.declared.event.Command.{Command}
use Rattle.words_core.specs.declared.event.Event.{Event}
use Rattle.words_core.specs.declared.reply.Refusal.{Refusal}
use Rattle.words_core.specs.declared.reply.Reply.{Reply}
use Rattle.world_core.specs.World.{Exchange}
use Rattle.promise_core.specs.Holdings.{KnownCache, Holdings, has_slot, known_cache, slab_around}
use Rattle.promise_core.specs.Lying.{AreOfHeld}
use Rattle.promise_core.specs.State.{State, Known, opening}
use Rattle.promise_core.specs.Promises.{allowed, all_allowed}

-- the event is a command of tenant t that makes a cache, and the cache's pattern has the byte
abbrev pub gives_pattern : ℕ → ℕ → Event → Bool
gives_pattern t byte (Event.Tenant named (Command.Cache size align pattern)) = named == t && list_any (λ b. b == byte) pattern.items
gives_pattern t byte event = false

-- the tenant writes the byte at the place, and the write is not refused
abbrev pub writes_byte : ℕ → ℕ → ℕ → Event → Body → Bool
writes_byte t place byte (Event.Tenant named (Command.Write begin new)) (Body.Written n) =
    named == t && ((nat_le begin place && nat_lt place (begin + length new.items))
    && slice_index new.items (place - begin) == byte)
writes_byte t place byte event body = false

-- the event grants tenant t the slot that contains the place; slots have 2 ^ order frames
abbrev pub grants_slot : ℕ → ℕ → ℕ → Event → Body → Bool
grants_slot order t place (Event.Admin (AdminCommand.Grant named)) (Body.Granted tenant u superblock) = named == t && slot_of order place == u
grants_slot order t place event body = false

-- the byte is in a pattern that the tenant gave, in these exchanges or before
abbrev pub was_given : ℕ → ℕ → Bool → List Exchange → Bool
was_given t byte before [] = before
was_given t byte before (e ∷ es) = was_given t byte (before || gives_pattern t byte e.event) es

-- the tenant wrote the byte at the place, in these exchanges or before, and the slot of the place was not granted to it since
abbrev pub was_written : ℕ → ℕ → ℕ → ℕ → Bool → List Exchange → Bool
was_written order t place byte before [] = before
was_written order t place byte before (e ∷ es) = was_written order t place byte
    (writes_byte t place byte e.event e.reply.body || (before && not (grants_slot order t place e.event e.reply.body))) es

-- the byte is zero, or is in a pattern that the tenant gave, or was written by it at the place since the slot was granted
abbrev pub is_own : ℕ → ℕ → ℕ → ℕ → List Exchange → Bool
is_own order t place byte es = byte == 0 || (was_given t byte false es || was_written order t place byte false es)

-- After allowed replies, each byte in an allowed reply to a read is the tenant's own.
abbrev pub Confined : Type 0
Confined = (limit order superblocks tenants t begin len j byte : ℕ) (es : List Exchange) (addressee : Addressee) (read : ArrayVec ℕ) (w v : Known)
    → all_allowed es (Ok (opening limit order superblocks tenants)) ≡ Ok w
    → allowed (Event.Tenant t (Command.Read begin len)) (record { addressee = addressee; body = Body.Bytes read }) w ≡ Ok v
    → slice_get read.items j ≡ Some byte → is_own order t (begin + j) byte es ≡ true

-- the block is a page block (None), or the slab of a live object of the cache with this number
abbrev pub Uses : Holdings → Option ℕ → Block → Type 0
Uses h None b = Contains h.pages b
Uses h (Some number) b = (c : KnownCache) × (place : ℕ) × Contains h.caches c × Contains c.live place × (c.number ≡ number) × (b ≡ slab_around c place)

-- used blocks are aligned and in held slots, and two used blocks that share a frame are the same block of the same user; slots
-- have 2 ^ order frames
pub record LiesApart (order : ℕ) (h : Holdings) : Type 0 where
  pub placed : (by : Option ℕ) (b : Block) → Uses h by b → IsAligned order b × (has_slot h (b.first / 2 ^ order) ≡ true)
  pub apart : (by other : Option ℕ) (a b : Block) (x : ℕ) → Uses h by a → Uses h other b → HasFrame a x → HasFrame b x
      → (by ≡ other) × (a ≡ b)

-- after allowed replies, the used blocks of every tenant lie apart
abbrev pub LiveApart : Type 0
LiveApart = (limit order superblocks tenants t : ℕ) (es : List Exchange) (w : Known) (s : State)
    → all_allowed es (Ok (opening limit order superblocks tenants)) ≡ Ok w → slice_get w.states t ≡ Some s → LiesApart order s.has

-- After allowed replies, each place of a tenant at which a byte was left is in a slot that the tenant holds.
abbrev pub LeftInHeld : Type 0
LeftInHeld = (limit order superblocks tenants t : ℕ) (es : List Exchange) (w : Known) (s : State)
    → all_allowed es (Ok (opening limit order superblocks tenants)) ≡ Ok w → slice_get w.states t ≡ Some s
    → AreOfHeld order s.has s.cells

-- a reply with this body to this command of tenant t is allowed
abbrev pub may_tell : Known → ℕ → Command → Body → Bool
may_tell w t command body = is_ok (allowed (Event.Tenant t command) (record { addressee = Addressee.Tenant t; body = body }) w)

-- in reply to the tenant's command, either an answer with some number or the refusal `NoFrames` is allowed, but never both
pub record IsRefusedForCause (w : Known) (t : ℕ) (command : Command) (answer : ℕ → Body) : Type 0 where
  pub answered : may_tell w t command (Body.Refused Refusal.NoFrames) ≡ false → (n : ℕ) × (may_tell w t command (answer n) ≡ true)
  pub refused : (n : ℕ) → may_tell w t command (Body.Refused Refusal.NoFrames) ≡ true → may_tell w t command (answer n) ≡ false

-- in every state, an `alloc` of any order up to a slot's is refused only for cause
abbrev pub RefusedForCause : Type 0
RefusedForCause = (w : Known) (s : State) (t k : ℕ) → slice_get w.states t ≡ Some s → k ≤ w.order
    → IsRefusedForCause w t (Command.Alloc k) Body.Frame

-- after any allowed replies, a `take` from an existing cache is refused only for cause
abbrev pub TakeRefusedForCause : Type 0
TakeRefusedForCause = (limit order superblocks tenants t number : ℕ) (es : List Exchange) (w : Known) (s : State) (c : KnownCache)
    → all_allowed es (Ok (opening limit order superblocks tenants)) ≡ Ok w → slice_get w.states t ≡ Some s
    → known_cache s.has number ≡ Some c → IsRefusedForCause w t (Command.Take number) Body.Object

-- the commands by which a tenant uses its memory
abbrev pub uses_memory : Command → Bool
uses_memory (Command.Alloc k) = true
uses_memory (Command.Free f) = true
uses_memory (Command.Read place len) = true
uses_memory (Command.Write place bytes) = true
uses_memory (Command.Take number) = true
uses_memory (Command.Give number place) = true
uses_memory command = false

-- after any allowed replies, each command by which a tenant uses its memory has an allowed reply
abbrev pub UseAnswerable : Type 0
UseAnswerable = (limit order superblocks tenants t : ℕ) (command : Command) (es : List Exchange) (w : Known)
    → all_allowed es (Ok (opening limit order superblocks tenants)) ≡ Ok w → uses_memory command ≡ true
    → (reply : Reply) × (is_ok (allowed (Event.Tenant t command) reply w) ≡ true)
