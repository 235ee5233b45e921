-- For each law of reached machines, an example that meets its premises by computation. Slots have 8 frames.
use Rattle.std.proofs.Common.{◌≡◌, ℕ, ◌<◌, ◌≤◌, false, List, [], ◌∷◌, Some, Ok, replicate, refl, ap, arith}
use Rattle.std.specs.Prelude.{codes, slice_get}
use Rattle.model_core.specs.Blocks.{Block, block, HasFrame, IsTaken, IsChoice, IsSound}
use Rattle.model_core.specs.BlockLaws.{JoinsTo}
use Rattle.model_core.specs.Layouts.{layout_of}
use Rattle.model_core.specs.Machine.{Slab, Cache, Machine, empty_machine, holds, taken_blocks, taken_in, choice, layout}
use Rattle.model_core.specs.Slabs.{reaped, by_need}
use Rattle.model_core.specs.Operations.{alloc_step, free_step, next_slot, after_grant}
use Rattle.model_core.specs.Runs.{Operation, run}
use Rattle.model_core.specs.WellFormed.{IsWellFormed}
use Rattle.model_core.specs.Laws.{Object, IsObject, HasByte}
use Rattle.model_core.specs.Room.{IsAmple}
use Rattle.model_core.proofs.BlocksByNumber.{available_tells}
use Rattle.words_core.specs.declared.event.Event.TheVariants as On
use Rattle.words_core.specs.declared.event.Command.TheVariants as Command
use Rattle.words_core.specs.declared.reply.Addressee.TheVariants as To
use Rattle.words_core.specs.declared.reply.Body.TheVariants as Say
use Rattle.words_core.specs.Cutting.{lines_of_trace}
use Rattle.world_core.specs.PrivateStep.{Entry, Ask, Grant, command_step, private_step}
use Rattle.world_core.specs.World.{World, opening_world, world_step, world_after}
use Rattle.world_core.specs.Output.{events_of}
use Rattle.world_core.specs.Reached.{reached_machine, AreRequests, EntriesAreOperations, OwnListsAreRequests, IsFreeIn, ReachedWellFormed, ReachedSound, ReachedFreeOnce, ReachedSplits, ReachedJoins, ReachedApart, ReachedRecordsFree, ReachedBlock, ReachedObject, NobodyStarves}
use Rattle.world_core.proofs.ComputedTraces.{computed_lines, computed_machine}

-- A slot is granted, a cache is made, and an object of it is taken and given back. That leaves one slab, which is empty.

abbrev trace : List ℕ
trace = codes "admin grant 0\n1 alloc 0\n0 cache 64 8 00\n0 take 0\n0 give 0 0\n"

abbrev entries : List Entry
entries = Grant ∷ Ask (Command.Cache 64 8 (record { items = 0 ∷ [] })) ∷ Ask (Command.Take 0) ∷ Ask (Command.Give 0 0) ∷ []

abbrev machine : Machine
machine = reached_machine 32 3 entries

are_requests : AreRequests entries
are_requests = (tt, (refl, (tt, (tt, tt))))

EntriesAreOperations-met : EntriesAreOperations →
    machine ≡ run 32 3 (Operation.Grant ∷ Operation.Create 64 8 (0 ∷ []) ∷ Operation.Take 0 ∷ Operation.Give 0 0 ∷ []) empty_machine
EntriesAreOperations-met law = law 32 3 entries empty_machine

OwnListsAreRequests-met : OwnListsAreRequests → AreRequests entries
unfolding computed_lines
OwnListsAreRequests-met law = law 32 3 2 2 0 trace

ReachedWellFormed-met : ReachedWellFormed → IsWellFormed 32 3 machine
ReachedWellFormed-met law = law 32 3 entries are_requests

ReachedSound-met : ReachedSound → IsSound 3 (holds machine) (taken_in machine)
ReachedSound-met law = law 32 3 entries are_requests

-- After the entries of `one_block`, frame 0 is taken, and frame 1 lies in one free block.

abbrev one_block : List Entry
one_block = Grant ∷ Ask (Command.Alloc 0) ∷ []

untaken : IsTaken (taken_in (reached_machine 32 3 one_block)) 1 → ⊥
unfolding command_step alloc_step free_step by_need reaped choice taken_blocks empty_machine next_slot after_grant private_step
untaken = (available_tells 3 (holds (reached_machine 32 3 one_block)) (taken_in (reached_machine 32 3 one_block)) 1 refl).1

ReachedFreeOnce-met : ReachedFreeOnce → (b : Block) × IsFreeIn 3 (reached_machine 32 3 one_block) b × HasFrame b 1
unfolding command_step alloc_step free_step by_need reaped choice taken_blocks empty_machine next_slot after_grant private_step
ReachedFreeOnce-met law = let once = law 32 3 1 one_block refl untaken in (once.0, once.1, once.2)

answered : (alloc_step 3 0 (reached_machine 32 3 one_block)).answer ≡ Ok 1
unfolding command_step alloc_step free_step by_need reaped choice taken_blocks empty_machine next_slot after_grant private_step
answered = refl

-- one more `alloc` of one frame splits the chosen block, which has some order j
ReachedSplits-met : ReachedSplits → let m = by_need 3 0 (reached_machine 32 3 one_block) in (j : ℕ) × IsChoice 3 (holds m) (taken_in m) 0 (block 1 j)
ReachedSplits-met law = let splits = law 32 3 0 1 one_block (tt, (tt, tt)) answered in (splits.0, splits.1)

-- the freed block is joined with its buddies up to some order j
ReachedJoins-met : ReachedJoins → (j : ℕ) × JoinsTo 3 (holds (reached_machine 32 3 one_block)) (taken_in (reached_machine 32 3 one_block)) 0 0 j
unfolding command_step alloc_step free_step by_need reaped choice taken_blocks empty_machine next_slot after_grant private_step
ReachedJoins-met law = let joins = law 32 3 0 0 one_block (tt, (tt, tt)) refl in (joins.0, joins.1)

-- The slab that `entries` leaves, its cache, and its first two objects: `first_object` has index 0, and `object` has index 1.

abbrev the_slab : Slab
the_slab = record { first = 0; colour = 0; live = replicate 63 false }

abbrev the_cache : Cache
the_cache = record { number = 0; size = 64; align = 8; pattern = 0 ∷ []; made = 1; slabs = the_slab ∷ [] }

abbrev object : Object
object = record { cache = the_cache; slab = the_slab; index = 1 }

abbrev first_object : Object
first_object = record { cache = the_cache; slab = the_slab; index = 0 }

it_is_there : IsObject machine object
unfolding computed_machine
it_is_there = record { cache_in = (0, omega arith, refl); slab_in = (0, omega arith, refl); index_in = omega arith }

its_byte : HasByte object 100
unfolding layout_of
its_byte = (omega arith, omega arith)

first_is_there : IsObject machine first_object
unfolding computed_machine
first_is_there = record { cache_in = (0, omega arith, refl); slab_in = (0, omega arith, refl); index_in = omega arith }

-- only the second object has the byte at place 100, so the first object does not have it
ReachedApart-met : ReachedApart → ((a : Object) → IsObject machine a → HasByte a 100 → a ≡ object) × (HasByte first_object 100 → ⊥)
ReachedApart-met law =
    let only : (a : Object) → IsObject machine a → HasByte a 100 → a ≡ object = λ a there has.
    law 32 3 entries are_requests a object there it_is_there 100 has its_byte in
    (only, λ has. absurd (omega (arith, ap (λ o. o.index) (only first_object first_is_there has))))

ReachedRecordsFree-met : ReachedRecordsFree → (0 ≤ 100) × (100 < 4064)
unfolding layout_of
ReachedRecordsFree-met law = law 32 3 entries are_requests object it_is_there refl 100 its_byte

-- The only slab of `machine` is empty, so the whole slot is free for a block ..

is_ample : IsAmple 3 3 machine
unfolding computed_machine
is_ample = record { of_slot = omega arith; fewer = omega arith }

ReachedBlock-met : ReachedBlock → (first : ℕ) × ((command_step 32 3 (Command.Alloc 3) machine).answer ≡ Say.Frame first)
ReachedBlock-met law = law 32 3 3 entries are_requests is_ample

-- .. and all frames of the slot are free for slabs of the cache
is_ample_for_slabs : IsAmple 3 (layout the_cache).order machine
unfolding computed_machine
is_ample_for_slabs = record { of_slot = omega arith; fewer = omega arith }

ReachedObject-met : ReachedObject → (place : ℕ) × ((command_step 32 3 (Command.Take 0) machine).answer ≡ Say.Object place)
unfolding computed_machine
ReachedObject-met law = law 32 3 0 entries the_cache are_requests refl is_ample_for_slabs

-- the world of two tenants after the trace
abbrev world : World
world = world_after 32 3 (opening_world 2 2) (events_of (lines_of_trace trace))

its_machine : slice_get world.machines 0 ≡ Some machine
unfolding computed_lines
its_machine = refl

NobodyStarves-met : NobodyStarves →
    (first : ℕ) × ((world_step 32 3 (On.Tenant 0 (Command.Alloc 3)) world).reply ≡ record { addressee = To.Tenant 0; body = Say.Frame first })
NobodyStarves-met law = law 32 3 2 2 0 3 trace machine (omega arith) its_machine is_ample
