-- For each law, a run in which its premises hold and its conclusion is not trivial.
use Rattle.std.specs.Prelude.{is_ok}
use Rattle.std.proofs.Common.{◌≡◌, ℕ, true, false, [], ◌∷◌, Option, Some, None, Result, Ok, Err, slice_get, unwrap_or, refl, arith}
use Rattle.model_core.specs.Blocks.{block, HasFrame}
use Rattle.model_core.specs.Machine.{slot_of}
use Rattle.words_core.specs.declared.event.Event.TheVariants as On
use Rattle.words_core.specs.declared.event.Command.TheVariants as Command
use Rattle.words_core.specs.declared.reply.Addressee.TheVariants as To
use Rattle.words_core.specs.declared.reply.Body.TheVariants as Say
use Rattle.words_core.specs.declared.reply.Reply.{Reply}
use Rattle.promise_core.specs.declared.promise.Promise.{Promise}
use Rattle.promise_core.specs.Holdings.{KnownCache, has_slot, known_blocks, can_stand, vacant_blocks, can_be_taken}
use Rattle.promise_core.specs.Bytes.{Holder, holder_of}
use Rattle.promise_core.specs.State.{State, Known, opening_state, opening, state_after, owners_after}
use Rattle.promise_core.specs.Promises.{due, allowed, all_allowed}
use Rattle.promise_core.specs.Laws.{LiveApart, LeftInHeld, is_own, Confined, may_tell, RefusedForCause, TakeRefusedForCause, UseAnswerable}
use Rattle.promise_core.proofs.Examples.{begun}

abbrev known_of : Result Known Promise → Known
known_of (Ok w) = w
known_of (Err promise) = opening 32 3 3 2

abbrev known : Known
known = known_of (all_allowed begun (Ok (opening 32 3 3 2)))

-- The run `begun` leaves a page block and a slab with a live object.

abbrev the_state : State
the_state = unwrap_or (slice_get known.states 0) opening_state

abbrev the_cache : KnownCache
the_cache = record { number = 0; size = 2000; align = 8; pattern = 90 ∷ []; chunk = 2000; order = 0; count = 2; live = 0 ∷ [] }

none_is_some : {n : ℕ} → ◌≡◌ {A = Option ℕ} None (Some n) → ⊥
none_is_some e = absurd (cc)

LiveApart-met : LiveApart → (x : ℕ) → HasFrame (block 2 1) x → HasFrame (block 0 0) x → ⊥
unfolding opening opening_state known_blocks can_stand vacant_blocks can_be_taken holder_of state_after owners_after due allowed
LiveApart-met law x page slab = none_is_some ((law 32 3 3 2 0 begun known the_state refl refl).apart None (Some 0) (block 2 1) (block 0 0) x
    (0, omega arith, refl) (the_cache, 0, (0, omega arith, refl), (0, omega arith, refl), refl, refl) page slab).0

-- the first of the two bytes that were written is in a held slot
LeftInHeld-met : LeftInHeld → has_slot the_state.has (slot_of 3 8192) ≡ true
unfolding opening opening_state known_blocks can_stand vacant_blocks can_be_taken holder_of state_after owners_after due allowed
LeftInHeld-met law = law 32 3 3 2 0 begun known the_state refl refl 8192 (record { holder = Holder.Page; byte = 1; sure = true }) refl

-- the second of the two bytes that were written in the page block is the tenant's own
Confined-met : Confined → is_own 3 0 8193 2 begun ≡ true
unfolding opening opening_state known_blocks can_stand vacant_blocks can_be_taken holder_of state_after owners_after due allowed
Confined-met law = law 32 3 3 2 0 8192 3 1 2 begun (To.Tenant 0) (record { items = 1 ∷ 2 ∷ 0 ∷ [] }) known
    (known_of (allowed (On.Tenant 0 (Command.Read 8192 3)) (record { addressee = To.Tenant 0; body = Say.Bytes (record { items = 1 ∷ 2 ∷ 0 ∷ [] }) }) known)) refl refl refl

-- byte 3 is not the tenant's own at this place, because the tenant did not write it there
not_own : is_own 3 0 8193 3 begun ≡ false
not_own = refl

-- after the run, some frame is an allowed reply to an `alloc`, because `NoFrames` is not
RefusedForCause-met : RefusedForCause → (f : ℕ) × (may_tell known 0 (Command.Alloc 0) (Say.Frame f) ≡ true)
unfolding opening opening_state known_blocks can_stand vacant_blocks can_be_taken holder_of state_after owners_after due allowed
RefusedForCause-met law = (law known the_state 0 0 refl (omega arith)).answered refl

-- after the run, some object is an allowed reply to a `take`
TakeRefusedForCause-met : TakeRefusedForCause → (place : ℕ) × (may_tell known 0 (Command.Take 0) (Say.Object place) ≡ true)
unfolding opening opening_state known_blocks can_stand vacant_blocks can_be_taken holder_of state_after owners_after due allowed
TakeRefusedForCause-met law = (law 32 3 3 2 0 0 begun known the_state the_cache refl refl refl).answered refl

-- after the run, giving the object back has an allowed reply
UseAnswerable-met : UseAnswerable → (reply : Reply) × (is_ok (allowed (On.Tenant 0 (Command.Give 0 0)) reply known) ≡ true)
unfolding opening opening_state known_blocks can_stand vacant_blocks can_be_taken holder_of state_after owners_after due allowed
UseAnswerable-met law = law 32 3 3 2 0 (Command.Give 0 0) begun known refl refl
