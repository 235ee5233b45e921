-- One instance of each law of objects and bytes: a machine after a few operations meets the law's premises. All slots have order
-- 3, which is 8 frames.
use Rattle.std.proofs.Common.{◌≡◌, ℕ, ◌+◌, ◌*◌, ◌<◌, ◌≤◌, Bool, true, false, List, [], ◌∷◌, ◌++◌, map, Some, replicate, refl, sym, ap, ◌∙◌, arith}
use Rattle.model_core.specs.declared.limits.TheConstants.{MAX_CACHES}
use Rattle.model_core.specs.Layouts.{layout_of}
use Rattle.model_core.specs.Machine.{Slab, Cache, Machine, empty_machine, holds, slot_of, taken_blocks, choice}
use Rattle.model_core.specs.Slabs.{fresh_byte, grown_cache, grown, slab_to_use, reaped, by_need}
use Rattle.model_core.specs.Reach.{in_reach}
use Rattle.model_core.specs.Operations.{alloc_step, free_step, write_step, next_slot, after_grant}
use Rattle.model_core.specs.CacheOperations.{create_step, cache_step, next_number, take_step, give_step, reap_step}
use Rattle.model_core.specs.Runs.{Operation, Alloc, Free, Write, Create, Take, Give, Reap, Grant, IsPossible, ArePossible, after, run}
use Rattle.model_core.specs.WellFormed.{in_slab, IsWellFormed}
use Rattle.model_core.specs.Laws.{makes_slab_at, Object, IsObject, HasByte, ObjectsApart, RecordsFree, hand_outs, ConstructedFirst, ConstructedWhenTaken}
use Rattle.model_core.specs.ByteLaws.{AllocKeeps, FreeKeeps, TakeKeeps, GiveKeeps, writes, IsLeftAlone, BytesStay, AllLeaveAlone, RunsKeepBytes, WritesAlone, SlabsLeaveZeroes}
use Rattle.model_core.proofs.Lists.{each_append, each_map, each_true}
use Rattle.model_core.proofs.Witnesses.{well_formed_left, slab_and_page, machine, is_well_formed, emptied, emptied_well_formed, crowded, crowded_well_formed}
use Rattle.model_core.proofs.RowAnswers.{machine_after}

-- The first two objects of the slab at frame 0: the first is live, the second was never handed out.

abbrev the_slab : Slab
the_slab = record { first = 0; colour = 0; live = true ∷ replicate 38 false }

abbrev the_cache : Cache
the_cache = record { number = 0; size = 100; align = 8; pattern = 90 ∷ []; made = 1; slabs = the_slab ∷ [] }

abbrev first_object : Object
first_object = record { cache = the_cache; slab = the_slab; index = 0 }

abbrev second_object : Object
second_object = record { cache = the_cache; slab = the_slab; index = 1 }

first_is_there : IsObject machine first_object
unfolding layout_of alloc_step cache_step create_step next_number take_step grown_cache grown slab_to_use fresh_byte by_need reaped choice taken_blocks empty_machine next_slot after_grant
first_is_there = record { cache_in = (0, omega arith, refl); slab_in = (0, omega arith, refl); index_in = omega arith }

second_is_there : IsObject machine second_object
unfolding layout_of alloc_step cache_step create_step next_number take_step grown_cache grown slab_to_use fresh_byte by_need reaped choice taken_blocks empty_machine next_slot after_grant
second_is_there = record { cache_in = (0, omega arith, refl); slab_in = (0, omega arith, refl); index_in = omega arith }

its_byte : HasByte second_object 203
unfolding layout_of
its_byte = (omega arith, omega arith)

-- only the second object has the byte at place 203, so the first does not have it
ObjectsApart-met : ObjectsApart → ((a : Object) → IsObject machine a → HasByte a 203 → a ≡ second_object) × (HasByte first_object 203 → ⊥)
ObjectsApart-met law =
    let only : (a : Object) → IsObject machine a → HasByte a 203 → a ≡ second_object = λ a there has.
    law MAX_CACHES 3 machine is_well_formed a second_object there second_is_there 203 has its_byte in
    (only, λ has. absurd (omega (arith, ap (λ o. o.index) (only first_object first_is_there has))))

RecordsFree-met : RecordsFree → (0 ≤ 203) × (203 < 4064)
unfolding layout_of
RecordsFree-met law = law MAX_CACHES 3 machine is_well_formed second_object second_is_there refl 203 its_byte

-- Cache 0 has eight slabs, on all frames of slot 0. All their objects are handed out, one of them is written, and all are given
-- back. Then a take from cache 1 frees these slabs on demand and makes a slab of cache 1 at frame 0.

abbrev sixteen : List ℕ
sixteen = 0 ∷ 1 ∷ 2 ∷ 3 ∷ 4 ∷ 5 ∷ 6 ∷ 7 ∷ 8 ∷ 9 ∷ 10 ∷ 11 ∷ 12 ∷ 13 ∷ 14 ∷ 15 ∷ []

abbrev then_given : List Operation
then_given = Write 2048 (99 ∷ []) ∷ map (λ i. Give 0 (2048 * i)) sixteen ++ (Create 2048 8 (22 ∷ []) ∷ [])

abbrev eight_slabs : List Operation
eight_slabs = Grant ∷ Create 2048 8 (11 ∷ []) ∷ map (λ i. Take 0) sixteen ++ then_given

can_be_requested : ArePossible eight_slabs
can_be_requested = (
  tt,
  (
    refl,
    each_append IsPossible (map (λ i. Take 0) sixteen) then_given (each_map IsPossible (λ i. Take 0) sixteen (each_true (λ i. IsPossible (Take 0)) (λ i. tt) sixteen)) (
      tt,
      each_append IsPossible (map (λ i. Give 0 (2048 * i)) sixteen) (Create 2048 8 (22 ∷ []) ∷ []) (each_map IsPossible (λ i. Give 0 (2048 * i)) sixteen (each_true (λ i. IsPossible (Give 0 (2048 * i))) (λ i. tt) sixteen))
          (refl, tt),
    ),
  ),
)

abbrev anew : Machine
anew = machine_after eight_slabs

-- the slab of cache 1, with its first object live; `second` says whether its second object is live
abbrev new_slab_with : Bool → Slab
new_slab_with second = record { first = 0; colour = 0; live = true ∷ second ∷ [] }

abbrev new_cache_with : Bool → Cache
new_cache_with second = record { number = 1; size = 2048; align = 8; pattern = 22 ∷ []; made = 0; slabs = new_slab_with second ∷ [] }

abbrev object_anew : Bool → ℕ → Object
object_anew second index = record { cache = new_cache_with second; slab = new_slab_with second; index = index }

-- before the new slab is made, the object at place 2048 has been handed out once
handed_out_before : hand_outs MAX_CACHES 3 2048 eight_slabs empty_machine 0 ≡ 1
unfolding layout_of cache_step create_step next_number take_step give_step write_step in_reach grown_cache grown slab_to_use fresh_byte by_need reaped choice taken_blocks empty_machine next_slot after_grant
handed_out_before = refl

-- .. and its first byte still has the value that was written
written_before : anew.bytes 2048 ≡ Some 99
unfolding layout_of cache_step create_step next_number take_step give_step write_step in_reach grown_cache grown slab_to_use fresh_byte by_need reaped choice taken_blocks empty_machine next_slot after_grant
written_before = refl

-- after the new slab is made, the object at place 2048 has not been handed out yet, and its first byte is the first byte of the
-- new pattern
ConstructedFirst-met : ConstructedFirst → (machine_after (eight_slabs ++ Take 1 ∷ [])).bytes (2048 + 0) ≡ Some 22
unfolding layout_of cache_step create_step next_number take_step give_step write_step in_reach grown_cache grown slab_to_use fresh_byte by_need reaped choice taken_blocks empty_machine next_slot after_grant
ConstructedFirst-met law = law MAX_CACHES 3 (eight_slabs ++ Take 1 ∷ []) (object_anew false 1) 0 (each_append IsPossible eight_slabs (Take 1 ∷ []) can_be_requested (tt, tt))
    (record { cache_in = (1, omega arith, refl); slab_in = (0, omega arith, refl); index_in = omega arith }) (omega arith) refl

-- The object of the first take, which makes the slab, reads as the new pattern. So does the object of the next take.
ConstructedWhenTaken-met : ConstructedWhenTaken
    → ((take_step 3 1 anew).machine.bytes (0 + 5) ≡ Some 22) × ((take_step 3 1 (machine_after (eight_slabs ++ Take 1 ∷ []))).machine.bytes (2048 + 0) ≡ Some 22)
unfolding layout_of cache_step create_step next_number take_step give_step write_step in_reach grown_cache grown slab_to_use fresh_byte by_need reaped choice taken_blocks empty_machine next_slot after_grant
ConstructedWhenTaken-met law = (
  law MAX_CACHES 3 1 eight_slabs (object_anew false 0) 5 can_be_requested refl
      (record { cache_in = (1, omega arith, refl); slab_in = (0, omega arith, refl); index_in = omega arith }) (omega arith) refl,
  law MAX_CACHES 3 1 (eight_slabs ++ Take 1 ∷ []) (object_anew true 1) 0 (each_append IsPossible eight_slabs (Take 1 ∷ []) can_be_requested (tt, tt)) refl
      (record { cache_in = (1, omega arith, refl); slab_in = (0, omega arith, refl); index_in = omega arith }) (omega arith) refl,
)

-- Bytes

AllocKeeps-met : AllocKeeps → (alloc_step 3 1 machine).machine.bytes ≡ machine.bytes
unfolding layout_of alloc_step cache_step create_step next_number take_step grown_cache grown slab_to_use by_need reaped choice taken_blocks empty_machine next_slot after_grant
AllocKeeps-met law = law 3 1 2 machine refl

FreeKeeps-met : FreeKeeps → (free_step 1 machine).machine.bytes ≡ machine.bytes
FreeKeeps-met law = law 1 machine

-- cache 0 has a slab with an object that is not live, so a take from it makes no slab
TakeKeeps-met : TakeKeeps → (take_step 3 0 machine).machine.bytes ≡ machine.bytes
unfolding layout_of alloc_step cache_step create_step next_number take_step grown_cache grown slab_to_use by_need reaped choice taken_blocks empty_machine next_slot after_grant
TakeKeeps-met law = law 3 0 machine refl

GiveKeeps-met : GiveKeeps → (give_step 0 0 machine).machine.bytes ≡ machine.bytes
GiveKeeps-met law = law 0 0 machine

-- Suppose that an operation neither writes a place nor makes a slab there, and that the slot of the place is held before and
-- after the operation. If the place is in a slab both before and after, or in no slab before and after, the operation leaves the
-- place alone.
left_alone : (operation : Operation) (m : Machine) (place : ℕ) (slab : Bool) → writes operation place ≡ false → makes_slab_at 3 operation m place ≡ false
    → in_slab m place ≡ slab → in_slab (after MAX_CACHES 3 operation m) place ≡ slab
    → holds m (slot_of 3 place) ≡ true → holds (after MAX_CACHES 3 operation m) (slot_of 3 place) ≡ true → IsLeftAlone MAX_CACHES 3 operation m place
left_alone operation m place slab unwritten unmade before later held_before held_later =
    record { unwritten = unwritten; unmade = unmade; same_slab = later ∙ sym before; same_slot = held_later ∙ sym held_before }

-- a take makes a slab at frame 4, and the byte at place 3, in the empty slab at frame 0, does not change
BytesStay-met : BytesStay → (after MAX_CACHES 3 (Take 2) emptied).bytes 3 ≡ emptied.bytes 3
unfolding layout_of cache_step create_step next_number take_step give_step grown_cache grown slab_to_use fresh_byte by_need reaped choice taken_blocks empty_machine next_slot after_grant
BytesStay-met law = law MAX_CACHES 3 (Take 2) emptied 3 emptied_well_formed (left_alone (Take 2) emptied 3 true refl refl refl refl refl refl)

-- a byte of a live object and a byte of a page block are written
abbrev both_written : List Operation
both_written = slab_and_page ++ (Write 3 (77 ∷ []) ∷ Write 4099 (78 ∷ []) ∷ [])

abbrev written : Machine
written = machine_after both_written

written_well_formed : IsWellFormed MAX_CACHES 3 written
written_well_formed = well_formed_left both_written (tt, (refl, (tt, (tt, (tt, (tt, tt))))))

-- the object is given back, the page block is freed, and both are handed out again
abbrev back_and_forth : List Operation
back_and_forth = Give 0 0 ∷ Free 1 ∷ Take 0 ∷ Alloc 0 ∷ []

object_left_alone : AllLeaveAlone MAX_CACHES 3 back_and_forth written 3
unfolding layout_of alloc_step free_step cache_step create_step next_number take_step give_step write_step in_reach grown_cache grown slab_to_use fresh_byte by_need reaped choice taken_blocks empty_machine next_slot after_grant
object_left_alone = (
  left_alone (Give 0 0) written 3 true refl refl refl refl refl refl,
  (
    left_alone (Free 1) (run MAX_CACHES 3 (Give 0 0 ∷ []) written) 3 true refl refl refl refl refl refl,
    (
      left_alone (Take 0) (run MAX_CACHES 3 (Give 0 0 ∷ Free 1 ∷ []) written) 3 true refl refl refl refl refl refl,
      (left_alone (Alloc 0) (run MAX_CACHES 3 (Give 0 0 ∷ Free 1 ∷ Take 0 ∷ []) written) 3 true refl refl refl refl refl refl, tt),
    ),
  ),
)

page_left_alone : AllLeaveAlone MAX_CACHES 3 back_and_forth written 4099
unfolding layout_of alloc_step free_step cache_step create_step next_number take_step give_step write_step in_reach grown_cache grown slab_to_use fresh_byte by_need reaped choice taken_blocks empty_machine next_slot after_grant
page_left_alone = (
  left_alone (Give 0 0) written 4099 false refl refl refl refl refl refl,
  (
    left_alone (Free 1) (run MAX_CACHES 3 (Give 0 0 ∷ []) written) 4099 false refl refl refl refl refl refl,
    (
      left_alone (Take 0) (run MAX_CACHES 3 (Give 0 0 ∷ Free 1 ∷ []) written) 4099 false refl refl refl refl refl refl,
      (left_alone (Alloc 0) (run MAX_CACHES 3 (Give 0 0 ∷ Free 1 ∷ Take 0 ∷ []) written) 4099 false refl refl refl refl refl refl, tt),
    ),
  ),
)

written_3 : written.bytes 3 ≡ Some 77
unfolding layout_of alloc_step free_step cache_step create_step next_number take_step give_step write_step in_reach grown_cache grown slab_to_use fresh_byte by_need reaped choice taken_blocks empty_machine next_slot after_grant
written_3 = refl

written_4099 : written.bytes 4099 ≡ Some 78
unfolding layout_of alloc_step free_step cache_step create_step next_number take_step give_step write_step in_reach grown_cache grown slab_to_use fresh_byte by_need reaped choice taken_blocks empty_machine next_slot after_grant
written_4099 = refl

RunsKeepBytes-met : RunsKeepBytes → ((run MAX_CACHES 3 back_and_forth written).bytes 3 ≡ Some 77) × ((run MAX_CACHES 3 back_and_forth written).bytes 4099 ≡ Some 78)
RunsKeepBytes-met law = (
  law MAX_CACHES 3 back_and_forth written 3 (tt, (tt, (tt, (tt, tt)))) written_well_formed object_left_alone ∙ written_3,
  law MAX_CACHES 3 back_and_forth written 4099 (tt, (tt, (tt, (tt, tt)))) written_well_formed page_left_alone ∙ written_4099,
)

-- a take makes a slab of another cache, and the byte at place 3, in the live object at place 0, does not change
WritesAlone-met : WritesAlone → (after MAX_CACHES 3 (Take 2) crowded).bytes 3 ≡ crowded.bytes 3
unfolding layout_of cache_step create_step next_number take_step give_step in_reach grown_cache grown slab_to_use fresh_byte by_need reaped choice taken_blocks empty_machine next_slot after_grant
WritesAlone-met law = law MAX_CACHES 3 (Take 2) crowded 3 crowded_well_formed refl refl refl

SlabsLeaveZeroes-met : SlabsLeaveZeroes → (after MAX_CACHES 3 Reap emptied).bytes 110 ≡ Some 0
unfolding layout_of cache_step create_step next_number take_step give_step reap_step grown_cache grown slab_to_use fresh_byte by_need reaped choice taken_blocks empty_machine next_slot after_grant
SlabsLeaveZeroes-met law = law MAX_CACHES 3 Reap emptied 110 emptied_well_formed refl refl refl
