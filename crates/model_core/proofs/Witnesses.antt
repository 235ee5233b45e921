-- One instance of each law of the machine: a machine after a few operations meets the law's premises. All slots have order 3,
-- which is 8 frames.
use Rattle.std.proofs.Common.{◌≡◌, ℕ, ◌<◌, ◌/◌, Bool, true, List, [], ◌∷◌, ◌++◌, Some, None, Ok, refl, arith}
use Rattle.std.specs.Prelude.{◌==◌, if◌then◌else◌}
use Rattle.std.proofs.lemmas.Bool.{eqb-true}
use Rattle.std.proofs.Math.Bool.{or-false}
use Rattle.model_core.specs.declared.limits.TheConstants.{MAX_CACHES}
use Rattle.model_core.specs.declared.refusals.AllocRefusal.{AllocRefusal}
use Rattle.model_core.specs.declared.refusals.TakeRefusal.{TakeRefusal}
use Rattle.model_core.specs.Blocks.{block, HasFrame, IsAligned, Taken, IsTaken, IsSound}
use Rattle.model_core.specs.Layouts.{layout_of, IsLayout, LayoutsFit}
use Rattle.model_core.specs.Machine.{Cache, Machine, empty_machine, holds, taken_blocks, taken_in, choice}
use Rattle.model_core.specs.Slabs.{new_slab, grown_cache, grown, slab_to_use, reaped, by_need, choice_by_need}
use Rattle.model_core.specs.Operations.{refuse, with_block, alloc_step, free_step, next_slot, after_grant}
use Rattle.model_core.specs.CacheOperations.{create_step, cache_step, next_number, hand_out, take_step, give_step}
use Rattle.model_core.specs.Runs.{Operation, Alloc, Create, Take, Give, Grant, ArePossible, after}
use Rattle.model_core.specs.WellFormed.{IsApart, IsWellFormed}
use Rattle.model_core.specs.Laws.{ChoiceIsUntaken, ChoicesMeet, AllocReaps, TakeReaps, RefusalsStay, KeepsWellFormed, RunsWellFormed, TakenApart, TakenSound, AllocTakes, FreeReleases, GrowthTakes, ReapReleases}
use Rattle.model_core.specs.Room.{IsAmple, BlockIsPromised, AllocIsPromised, TakeIsPromised}
use Rattle.model_core.proofs.BlockChoice.{choice_is_found}
use Rattle.model_core.proofs.WellFormedRuns.{runs_well_formed}
use Rattle.model_core.proofs.RowAnswers.{machine_after}

pub well_formed_left : (operations : List Operation) → ArePossible operations → IsWellFormed MAX_CACHES 3 (machine_after operations)
well_formed_left operations can = runs_well_formed MAX_CACHES 3 operations can

-- In `machine`, frame 0 is a slab with a live object, and frame 1 is a page block.

abbrev pub slab_and_page : List Operation
slab_and_page = Grant ∷ Create 100 8 (90 ∷ []) ∷ Take 0 ∷ Alloc 0 ∷ []

abbrev pub machine : Machine
machine = machine_after slab_and_page

pub is_well_formed : IsWellFormed MAX_CACHES 3 machine
is_well_formed = well_formed_left slab_and_page (tt, (refl, (tt, (tt, tt))))

-- In `emptied`, frame 0 is an empty slab of cache 0. Caches 1 and 2 have no slabs yet; their slabs will have order 3 and order 2.

abbrev pub slab_given_back : List Operation
slab_given_back = Grant ∷ Create 100 8 (90 ∷ []) ∷ Take 0 ∷ Give 0 0 ∷ Create 2736 8 (7 ∷ []) ∷ Create 3000 8 (8 ∷ []) ∷ []

abbrev pub emptied : Machine
emptied = machine_after slab_given_back

pub emptied_well_formed : IsWellFormed MAX_CACHES 3 emptied
emptied_well_formed = well_formed_left slab_given_back (tt, (refl, (tt, (tt, (refl, (refl, tt))))))

-- the machine `emptied` after a take from cache 0, which makes an object of the slab live
abbrev pub crowded : Machine
crowded = machine_after (slab_given_back ++ Take 0 ∷ [])

pub crowded_well_formed : IsWellFormed MAX_CACHES 3 crowded
crowded_well_formed = well_formed_left (slab_given_back ++ Take 0 ∷ []) (tt, (refl, (tt, (tt, (refl, (refl, (tt, tt)))))))

abbrev cache_of_order_3 : Cache
cache_of_order_3 = record { number = 1; size = 2736; align = 8; pattern = 7 ∷ []; made = 0; slabs = [] }

abbrev cache_of_order_2 : Cache
cache_of_order_2 = record { number = 2; size = 3000; align = 8; pattern = 8 ∷ []; made = 0; slabs = [] }

-- the layout of objects of 200 bytes has several colour offsets
LayoutsFit-met : LayoutsFit → IsLayout 200 8 (layout_of 200 8)
LayoutsFit-met law = law 200 8 refl refl

ChoiceIsUntaken-met : ChoiceIsUntaken
    → IsAligned 3 (block 2 1) × ((x : ℕ) → HasFrame (block 2 1) x → (holds machine (x / 8) ≡ true) × (IsTaken (taken_in machine) x → ⊥))
unfolding layout_of alloc_step cache_step create_step next_number take_step grown_cache grown slab_to_use by_need reaped choice taken_blocks empty_machine next_slot after_grant
ChoiceIsUntaken-met law = law 3 1 2 machine refl

-- another representation of the machine's taken blocks
abbrev frames_0_and_1 : Taken
frames_0_and_1 f = if 1 == f then Some 0 else if 0 == f then Some 0 else None

abbrev slot_0 : ℕ → Bool
slot_0 u = 0 == u

slot_0_below : (u : ℕ) → slot_0 u ≡ true → u < 1
slot_0_below u e = omega (arith, eqb-true 0 u e)

same_slots : (u : ℕ) → holds machine u ≡ slot_0 u
unfolding layout_of alloc_step cache_step create_step next_number take_step grown_cache grown slab_to_use by_need reaped choice taken_blocks empty_machine next_slot after_grant
same_slots u = or-false (0 == u)

same_taken : (f : ℕ) → taken_in machine f ≡ frames_0_and_1 f
unfolding layout_of alloc_step cache_step create_step next_number take_step grown_cache grown slab_to_use by_need reaped choice taken_blocks empty_machine next_slot after_grant
same_taken f = refl

ChoicesMeet-met : ChoicesMeet → (choice 3 machine 1 ≡ Some 2) × (choice 3 machine 3 ≡ None)
ChoicesMeet-met law = (
  (law 3 1 slot_0 frames_0_and_1 machine same_slots same_taken).0 2 1 (choice_is_found 3 slot_0 frames_0_and_1 1 1 slot_0_below),
  (law 3 3 slot_0 frames_0_and_1 machine same_slots same_taken).1 (choice_is_found 3 slot_0 frames_0_and_1 1 3 slot_0_below),
)

-- Reaping on demand

AllocReaps-met : AllocReaps
    → (alloc_step 3 2 emptied ≡ record { answer = Ok 4; machine = with_block (block 4 2) emptied })
    × (alloc_step 3 3 emptied ≡ record { answer = Ok 0; machine = with_block (block 0 3) (reaped emptied) })
    × (alloc_step 3 3 crowded ≡ refuse AllocRefusal.NoFrames crowded)
unfolding layout_of cache_step create_step next_number take_step give_step grown_cache grown slab_to_use by_need reaped choice taken_blocks empty_machine next_slot after_grant
AllocReaps-met law = (
  (law 3 2 emptied (omega arith)).found 4 refl,
  (law 3 3 emptied (omega arith)).reaps 0 refl refl,
  (law 3 3 crowded (omega arith)).stays refl refl,
)

TakeReaps-met : TakeReaps
    → (take_step 3 2 emptied ≡ hand_out (grown_cache 4 cache_of_order_2) (new_slab cache_of_order_2 4) (grown 4 cache_of_order_2 emptied))
    × (take_step 3 1 emptied ≡ hand_out (grown_cache 0 cache_of_order_3) (new_slab cache_of_order_3 0) (grown 0 cache_of_order_3 (reaped emptied)))
    × (take_step 3 1 crowded ≡ refuse TakeRefusal.NoFrames crowded)
unfolding layout_of cache_step create_step next_number take_step give_step grown_cache grown slab_to_use by_need reaped choice taken_blocks empty_machine next_slot after_grant
TakeReaps-met law = (
  (law 3 2 emptied cache_of_order_2 refl refl).found 4 refl,
  (law 3 1 emptied cache_of_order_3 refl refl).reaps 0 refl refl,
  (law 3 1 crowded cache_of_order_3 refl refl).stays refl refl,
)

RefusalsStay-met : RefusalsStay → ((alloc_step 3 3 crowded).machine ≡ crowded) × ((take_step 3 1 crowded).machine ≡ crowded)
unfolding layout_of alloc_step cache_step create_step next_number take_step give_step grown_cache grown slab_to_use by_need reaped choice taken_blocks empty_machine next_slot after_grant
RefusalsStay-met law = ((law 3 3 crowded).0, (law 3 1 crowded).1)

-- Well formed machines

KeepsWellFormed-met : KeepsWellFormed → IsWellFormed MAX_CACHES 3 (after MAX_CACHES 3 (Create 64 16 (1 ∷ 2 ∷ [])) machine)
KeepsWellFormed-met law = law MAX_CACHES 3 (Create 64 16 (1 ∷ 2 ∷ [])) machine refl is_well_formed

RunsWellFormed-met : RunsWellFormed → IsWellFormed MAX_CACHES 3 machine
RunsWellFormed-met law = law MAX_CACHES 3 slab_and_page (tt, (refl, (tt, (tt, tt))))

-- Taken blocks: the page block at frame 1 and the slab at frame 0

TakenApart-met : TakenApart → IsApart (block 1 0) (block 0 0)
unfolding layout_of alloc_step cache_step create_step next_number take_step grown_cache grown slab_to_use by_need reaped choice taken_blocks empty_machine next_slot after_grant
TakenApart-met law = law MAX_CACHES 3 machine is_well_formed 0 1 (block 0 0) (omega arith) (omega arith)

TakenSound-met : TakenSound → IsSound 3 (holds machine) (taken_in machine)
TakenSound-met law = law MAX_CACHES 3 machine is_well_formed

-- In `machine`, an alloc of order 1 finds a block at once. In `emptied`, an alloc of order 3 finds one after the empty slab is
-- freed.
AllocTakes-met : AllocTakes → (taken_in (alloc_step 3 1 machine).machine 2 ≡ Some 1) × (taken_in (alloc_step 3 3 emptied).machine 0 ≡ Some 3)
unfolding layout_of alloc_step cache_step create_step next_number take_step give_step grown_cache grown slab_to_use by_need reaped choice taken_blocks empty_machine next_slot after_grant
AllocTakes-met law = (law MAX_CACHES 3 1 2 machine is_well_formed refl 2, law MAX_CACHES 3 3 0 emptied emptied_well_formed refl 0)

FreeReleases-met : FreeReleases → (taken_in (free_step 1 machine).machine 1 ≡ None) × (taken_in (free_step 1 machine).machine 0 ≡ Some 0)
unfolding layout_of alloc_step free_step cache_step create_step next_number take_step grown_cache grown slab_to_use by_need reaped choice taken_blocks empty_machine next_slot after_grant
FreeReleases-met law = (law MAX_CACHES 3 1 0 machine is_well_formed refl 1, law MAX_CACHES 3 1 0 machine is_well_formed refl 0)

GrowthTakes-met : GrowthTakes → (taken_in (grown 4 cache_of_order_2 emptied) 4 ≡ Some 2) × (taken_in (grown 4 cache_of_order_2 emptied) 0 ≡ Some 0)
unfolding layout_of cache_step create_step next_number take_step give_step grown_cache grown slab_to_use by_need reaped choice taken_blocks empty_machine next_slot after_grant
GrowthTakes-met law = (
  law MAX_CACHES 3 4 cache_of_order_2 emptied emptied_well_formed (2, omega arith, refl) refl 4,
  law MAX_CACHES 3 4 cache_of_order_2 emptied emptied_well_formed (2, omega arith, refl) refl 0,
)

ReapReleases-met : ReapReleases → (taken_in emptied 0 ≡ Some 0) × (taken_in (reaped emptied) 0 ≡ None) × (taken_in (reaped machine) 0 ≡ Some 0)
unfolding layout_of alloc_step cache_step create_step next_number take_step give_step grown_cache grown slab_to_use by_need reaped choice taken_blocks empty_machine next_slot after_grant
ReapReleases-met law = (refl, law MAX_CACHES 3 emptied emptied_well_formed 0, law MAX_CACHES 3 machine is_well_formed 0)

-- Space for a block

-- two frames are taken and the slot has four blocks of order 1, so there is space for a block of order 1
BlockIsPromised-met : BlockIsPromised → (first : ℕ) × (choice_by_need 3 1 machine ≡ Some first)
unfolding layout_of alloc_step cache_step create_step next_number take_step grown_cache grown slab_to_use by_need reaped choice taken_blocks empty_machine next_slot after_grant
BlockIsPromised-met law = law MAX_CACHES 3 1 machine is_well_formed (record { of_slot = omega arith; fewer = omega arith })

-- the frame of the empty slab does not count as taken, so there is space for a block of order 3
all_of_slot : IsAmple 3 3 emptied
unfolding layout_of cache_step create_step next_number take_step give_step grown_cache grown slab_to_use by_need reaped choice taken_blocks empty_machine next_slot after_grant
all_of_slot = record { of_slot = omega arith; fewer = omega arith }

AllocIsPromised-met : AllocIsPromised → (first : ℕ) × ((alloc_step 3 3 emptied).answer ≡ Ok first)
AllocIsPromised-met law = law MAX_CACHES 3 3 emptied emptied_well_formed all_of_slot

TakeIsPromised-met : TakeIsPromised → (place : ℕ) × ((take_step 3 1 emptied).answer ≡ Ok place)
unfolding layout_of cache_step create_step next_number take_step give_step grown_cache grown slab_to_use by_need reaped choice taken_blocks empty_machine next_slot after_grant
TakeIsPromised-met law = law MAX_CACHES 3 1 emptied cache_of_order_3 emptied_well_formed refl all_of_slot
