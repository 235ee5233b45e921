-- Worked runs, checked by computation. Slots have 8 frames, and there are three superblocks and two tenants.
use Rattle.std.proofs.Common.{◌≡◌, ℕ, List, [], ◌∷◌, ◌++◌, Option, Some, None, Result, Ok, Err, refl}
use Rattle.model_core.specs.Owners.{owned_by}
use Rattle.words_core.specs.declared.event.Event.TheVariants as On
use Rattle.words_core.specs.declared.event.AdminCommand.{AdminCommand}
use Rattle.words_core.specs.declared.event.AdminCommand.TheVariants as Do
use Rattle.words_core.specs.declared.event.Command.{Command}
use Rattle.words_core.specs.declared.reply.Addressee.TheVariants as To
use Rattle.words_core.specs.declared.reply.Body.{Body}
use Rattle.words_core.specs.declared.reply.Body.TheVariants as Say
use Rattle.words_core.specs.declared.reply.Refusal.{Refusal}
use Rattle.world_core.specs.World.{Exchange}
use Rattle.promise_core.specs.declared.promise.Promise.{Promise}
use Rattle.promise_core.specs.Holdings.{known_blocks, can_stand, vacant_blocks, can_be_taken}
use Rattle.promise_core.specs.Bytes.{holder_of}
use Rattle.promise_core.specs.State.{Known, opening_state, opening, state_after, owners_after}
use Rattle.promise_core.specs.Promises.{due, allowed, all_allowed}

abbrev pub asked : ℕ → Command → Body → Exchange
asked t command body = record { event = On.Tenant t command; reply = record { addressee = To.Tenant t; body = body } }

abbrev pub ordered : AdminCommand → Body → Exchange
ordered command body = record { event = On.Admin command; reply = record { addressee = To.Admin; body = body } }

-- the first promise that is broken, or None if all replies are allowed
abbrev pub broken_by : Result Known Promise → Option Promise
broken_by (Ok w) = None
broken_by (Err promise) = Some promise

abbrev pub verdict_on : List Exchange → Option Promise
verdict_on es = broken_by (all_allowed es (Ok (opening 32 3 3 2)))

-- a run after which tenant 0 has an object in a slab of frame 0, and a page block with two written bytes
abbrev pub begun : List Exchange
begun = ordered (Do.Grant 0) (Say.Granted 0 0 0) ∷ asked 0 (Command.Cache 2000 8 (record { items = 90 ∷ [] })) (Say.Cache 0 2000 0 2 13)
    ∷ asked 0 (Command.Take 0) (Say.Object 0) ∷ asked 0 (Command.Alloc 1) (Say.Frame 2)
    ∷ asked 0 (Command.Write 8192 (record { items = 1 ∷ 2 ∷ [] })) (Say.Written 2) ∷ []

-- a report after the object was given back, while its slab still exists
abbrev reported : Exchange
reported = asked 0 Command.Report (Say.Report (record {
  frames = 8;
  live = 2;
  free = 6;
  top = Some 2;
  split = 334;
  orders = record {
    items = record { free = 0; taken = 2 } ∷ record { free = 1; taken = 0 } ∷ record { free = 1; taken = 0 } ∷ record { free = 0; taken = 0 } ∷ [];
  };
  caches = record { items = record { cache = 0; full = 0; partial = 0; empty = 1; live = 0 } ∷ [] };
}))

abbrev emptied : List Exchange
emptied = begun ++ (asked 0 (Command.Free 2) (Say.Freed 1) ∷ asked 0 (Command.Alloc 0) (Say.Frame 1) ∷ asked 0 (Command.Give 0 0) Say.Given ∷ [])

-- a run with every command at least once and with partmem's replies, all of which are allowed
every_command : verdict_on (begun
    ++ (asked 0 (Command.Read 8192 3) (Say.Bytes (record { items = 1 ∷ 2 ∷ 0 ∷ [] })) ∷ asked 0 (Command.Read 0 2) (Say.Bytes (record { items = 90 ∷ 90 ∷ [] }))
    ∷ asked 0 (Command.Free 2) (Say.Freed 1) ∷ asked 0 (Command.Alloc 0) (Say.Frame 1) ∷ asked 0 (Command.Give 0 0) Say.Given ∷ reported
    ∷ asked 0 Command.Reap (Say.Reaped 1) ∷ asked 0 (Command.Take 0) (Say.Object 8) ∷ asked 0 (Command.Give 0 0) (Say.Refused Refusal.NotAnObject)
    ∷ asked 0 (Command.Destroy 0) (Say.Refused Refusal.CacheInUse) ∷ asked 0 (Command.Give 0 8) Say.Given ∷ asked 0 (Command.Destroy 0) (Say.Destroyed 1)
    ∷ asked 0 (Command.Alloc 9) (Say.Refused Refusal.BadOrder) ∷ ordered (Do.Grant 1) (Say.Granted 1 0 1) ∷ ordered (Do.Move 0 0) (Say.Moved 0 0 2)
    ∷ ordered Do.Pool (Say.Owners (record { items = None ∷ Some (owned_by 1 0) ∷ Some (owned_by 0 0) ∷ [] }))
    ∷ ordered (Do.TakeBack 1 0) (Say.TakenBack 1) ∷ ordered (Do.Reset 0) (Say.WasReset 0 1)
    ∷ record { event = On.Tenant 5 (Command.Alloc 0); reply = record { addressee = To.Nobody; body = Say.Refused Refusal.NoTenant } } ∷ [])) ≡ None
unfolding opening opening_state known_blocks can_stand vacant_blocks can_be_taken holder_of state_after owners_after due allowed
every_command = refl

-- The replies of another policy are allowed too. This policy grants the last superblock in a slot of its own choice, allocates
-- from the top, uses one colour, and frees empty slabs at once.
another_policy : verdict_on (ordered (Do.Grant 0) (Say.Granted 0 5 2)
    ∷ asked 0 (Command.Cache 2000 8 (record { items = 90 ∷ [] })) (Say.Cache 7 2048 1 4 1) ∷ asked 0 (Command.Take 7) (Say.Object 192512)
    ∷ asked 0 (Command.Alloc 1) (Say.Frame 44) ∷ asked 0 (Command.Take 7) (Say.Object 188416) ∷ asked 0 (Command.Give 7 192512) Say.Given
    ∷ asked 0 (Command.Give 7 188416) Say.Given ∷ asked 0 Command.Reap (Say.Reaped 0) ∷ []) ≡ None
unfolding opening opening_state known_blocks can_stand vacant_blocks can_be_taken holder_of state_after owners_after due allowed
another_policy = refl

-- For each promise, a reply that breaks it

no_form : verdict_on (begun ++ (asked 0 (Command.Alloc 0) (Say.Freed 0) ∷ [])) ≡ Some Promise.Form
unfolding opening opening_state known_blocks can_stand vacant_blocks can_be_taken holder_of state_after owners_after due allowed
no_form = refl

-- no block begins at frame 3, so it cannot be freed
no_refusal : verdict_on (begun ++ (asked 0 (Command.Free 3) (Say.Freed 0) ∷ [])) ≡ Some Promise.Refusals
unfolding opening opening_state known_blocks can_stand vacant_blocks can_be_taken holder_of state_after owners_after due allowed
no_refusal = refl

-- frames 4 to 7 are free, so a block of four frames may not be refused
no_room : verdict_on (begun ++ (asked 0 (Command.Alloc 2) (Say.Refused Refusal.NoFrames) ∷ [])) ≡ Some Promise.Room
unfolding opening opening_state known_blocks can_stand vacant_blocks can_be_taken holder_of state_after owners_after due allowed
no_room = refl

-- nothing was ever in the slot, so it is not busy
not_busy : verdict_on (ordered (Do.Grant 1) (Say.Granted 1 0 0) ∷ ordered (Do.TakeBack 1 0) (Say.Refused Refusal.SlotBusy) ∷ []) ≡ Some Promise.Busy
unfolding opening opening_state known_blocks can_stand vacant_blocks can_be_taken holder_of state_after owners_after due allowed
not_busy = refl

-- frame 3 is in the page block, so it may not be allocated
no_block : verdict_on (begun ++ (asked 0 (Command.Alloc 0) (Say.Frame 3) ∷ [])) ≡ Some Promise.Blocks
unfolding opening opening_state known_blocks can_stand vacant_blocks can_be_taken holder_of state_after owners_after due allowed
no_block = refl

-- place 1992 is in the first object, so no other object may begin there
no_object : verdict_on (begun ++ (asked 0 (Command.Take 0) (Say.Object 1992) ∷ [])) ≡ Some Promise.Objects
unfolding opening opening_state known_blocks can_stand vacant_blocks can_be_taken holder_of state_after owners_after due allowed
no_object = refl

-- three objects of 2000 bytes do not fit into a slab of one frame
no_layout : verdict_on (begun ++ (asked 0 (Command.Cache 2000 8 (record { items = 1 ∷ [] })) (Say.Cache 1 2000 0 3 1) ∷ [])) ≡ Some Promise.Layout
unfolding opening opening_state known_blocks can_stand vacant_blocks can_be_taken holder_of state_after owners_after due allowed
no_layout = refl

-- only five frames are not taken, so six cannot be freed
no_gift : verdict_on (begun ++ (asked 0 Command.Reap (Say.Reaped 6) ∷ [])) ≡ Some Promise.Gives
unfolding opening opening_state known_blocks can_stand vacant_blocks can_be_taken holder_of state_after owners_after due allowed
no_gift = refl

-- superblock 0 belongs to tenant 0, so it may not be granted
no_owner : verdict_on (begun ++ (ordered (Do.Grant 1) (Say.Granted 1 0 0) ∷ [])) ≡ Some Promise.Owners
unfolding opening opening_state known_blocks can_stand vacant_blocks can_be_taken holder_of state_after owners_after due allowed
no_owner = refl

-- nothing was written at this place, so the byte read there has to be 0
no_byte : verdict_on (begun ++ (asked 0 (Command.Read 8194 1) (Say.Bytes (record { items = 3 ∷ [] })) ∷ [])) ≡ Some Promise.Bytes
unfolding opening opening_state known_blocks can_stand vacant_blocks can_be_taken holder_of state_after owners_after due allowed
no_byte = refl

-- the object is live, so the report may not count its slab as empty
no_report : verdict_on (begun ++ (reported ∷ [])) ≡ Some Promise.Report
unfolding opening opening_state known_blocks can_stand vacant_blocks can_be_taken holder_of state_after owners_after due allowed
no_report = refl

-- the report counted one empty slab, so a reap has to free its frame
not_still : verdict_on (emptied ++ (reported ∷ asked 0 Command.Reap (Say.Reaped 0) ∷ [])) ≡ Some Promise.Still
unfolding opening opening_state known_blocks can_stand vacant_blocks can_be_taken holder_of state_after owners_after due allowed
not_still = refl

-- without the report it is not known whether there is an empty slab, so a reap that frees no frame is allowed
still_unknown : verdict_on (emptied ++ (asked 0 Command.Reap (Say.Reaped 0) ∷ [])) ≡ None
unfolding opening opening_state known_blocks can_stand vacant_blocks can_be_taken holder_of state_after owners_after due allowed
still_unknown = refl
