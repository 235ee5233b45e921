-- Worked examples of reaping on demand, by computation. Slots have 8 frames.
use Rattle.std.proofs.Common.{◌≡◌, refl, List, [], ◌∷◌, ◌++◌, map, replicate, Some, None, Ok, arith}
use Rattle.model_core.specs.declared.refusals.AllocRefusal.{AllocRefusal}
use Rattle.model_core.specs.Blocks.{block}
use Rattle.model_core.specs.Layouts.{layout_of}
use Rattle.model_core.specs.Machine.{empty_machine, taken_blocks, choice}
use Rattle.model_core.specs.Slabs.{fresh_byte, grown_cache, grown, slab_to_use, reaped, by_need}
use Rattle.model_core.specs.Reach.{in_reach}
use Rattle.model_core.specs.Operations.{refuse, alloc_step, read_step, next_slot, after_grant}
use Rattle.model_core.specs.CacheOperations.{create_step, cache_step, next_number, take_step, give_step, reap_step}
use Rattle.model_core.specs.Runs.{Operation, Alloc, Create, Take, Give, Reap, Grant}
use Rattle.model_core.proofs.ReapingByNeed.{alloc_reaps}
use Rattle.model_core.proofs.RowAnswers.{number_of, numbers, machine_after}

-- an alloc is refused while an object is live in the frames that it needs, and succeeds after the object is given back
abbrev object_in_the_way : List Operation
object_in_the_way = Grant ∷ Create 64 8 (0 ∷ []) ∷ Take 0 ∷ Alloc 3 ∷ Give 0 0 ∷ Alloc 3 ∷ []

reaped_for_a_block : numbers object_in_the_way ≡ Some 0 ∷ Some 0 ∷ Some 0 ∷ None ∷ Some 0 ∷ Some 0 ∷ []
unfolding number_of layout_of alloc_step cache_step create_step next_number take_step give_step grown_cache grown slab_to_use fresh_byte choice by_need reaped taken_blocks empty_machine next_slot after_grant
reaped_for_a_block = refl

-- after these operations the cache has no slab, and the first two bytes of the former control record read as zero
no_slab : map (λ c. c.slabs) (machine_after object_in_the_way).caches ≡ [] ∷ []
unfolding layout_of alloc_step cache_step create_step next_number take_step give_step grown_cache grown slab_to_use fresh_byte choice by_need reaped taken_blocks empty_machine next_slot after_grant
no_slab = refl

record_reads_zero : (read_step 4064 2 (machine_after object_in_the_way)).answer ≡ Ok (0 ∷ 0 ∷ [])
unfolding layout_of alloc_step cache_step create_step next_number take_step give_step read_step in_reach grown_cache grown slab_to_use fresh_byte choice by_need reaped taken_blocks empty_machine next_slot after_grant
record_reads_zero = refl

-- if no block of the requested order would be free even without the empty slab, the alloc is refused and the slab stays
abbrev block_in_the_way : List Operation
block_in_the_way = Grant ∷ Alloc 0 ∷ Create 64 8 (0 ∷ []) ∷ Take 0 ∷ Give 0 4096 ∷ []

no_room : alloc_step 3 3 (machine_after block_in_the_way) ≡ refuse AllocRefusal.NoFrames (machine_after block_in_the_way)
unfolding layout_of alloc_step cache_step create_step next_number take_step give_step grown_cache grown slab_to_use choice by_need reaped taken_blocks empty_machine next_slot after_grant
no_room = (alloc_reaps 3 3 (machine_after block_in_the_way) (omega arith)).stays refl refl

slab_stays : numbers (block_in_the_way ++ (Alloc 3 ∷ Reap ∷ [])) ≡ Some 0 ∷ Some 0 ∷ Some 0 ∷ Some 4096 ∷ Some 4096 ∷ None ∷ Some 1 ∷ []
unfolding number_of layout_of alloc_step cache_step create_step next_number take_step give_step reap_step grown_cache grown slab_to_use fresh_byte choice by_need reaped taken_blocks empty_machine next_slot after_grant
slab_stays = refl

-- if a block of the requested order is free without a reap, it is allocated, and the empty slab stays
block_beside : numbers (Grant ∷ Create 64 8 (0 ∷ []) ∷ Take 0 ∷ Give 0 0 ∷ Alloc 2 ∷ Reap ∷ []) ≡ Some 0 ∷ Some 0 ∷ Some 0 ∷ Some 0 ∷ Some 4 ∷ Some 1 ∷ []
unfolding number_of layout_of alloc_step cache_step create_step next_number take_step give_step reap_step grown_cache grown slab_to_use fresh_byte choice by_need reaped taken_blocks empty_machine next_slot after_grant
block_beside = refl

-- the eight empty slabs of one cache are freed, so that another cache can make a slab of four frames
abbrev eight_given : List Operation
eight_given = Grant ∷ Create 4096 8 (17 ∷ []) ∷ replicate 8 (Take 0)
    ++ (Give 0 0 ∷ Give 0 4096 ∷ Give 0 8192 ∷ Give 0 12288 ∷ Give 0 16384 ∷ Give 0 20480 ∷ Give 0 24576 ∷ Give 0 28672 ∷ Create 3000 8 (34 ∷ []) ∷ Take 1 ∷ [])

reaped_for_a_slab : numbers eight_given ≡ Some 0 ∷ Some 0
    ∷ Some 0 ∷ Some 4096 ∷ Some 8192 ∷ Some 12288 ∷ Some 16384 ∷ Some 20480 ∷ Some 24576 ∷ Some 28672
    ∷ Some 0 ∷ Some 4096 ∷ Some 8192 ∷ Some 12288 ∷ Some 16384 ∷ Some 20480 ∷ Some 24576 ∷ Some 28672 ∷ Some 1 ∷ Some 0 ∷ []
unfolding number_of layout_of cache_step create_step next_number take_step give_step grown_cache grown slab_to_use fresh_byte choice by_need reaped taken_blocks empty_machine next_slot after_grant
reaped_for_a_slab = refl

one_slab : taken_blocks (machine_after eight_given) ≡ block 0 2 ∷ []
unfolding layout_of cache_step create_step next_number take_step give_step grown_cache grown slab_to_use fresh_byte choice by_need reaped taken_blocks empty_machine next_slot after_grant
one_slab = refl

constructed_anew : (read_step 0 1 (machine_after eight_given)).answer ≡ Ok (34 ∷ [])
unfolding layout_of cache_step create_step next_number take_step give_step read_step in_reach grown_cache grown slab_to_use fresh_byte choice by_need reaped taken_blocks empty_machine next_slot after_grant
constructed_anew = refl

-- After these operations, the only free block is at frame 6, and it is too small for a slab of cache 1. A take from cache 1 frees
-- the empty slabs of cache 0 and makes a slab of cache 1 at frame 0, on their frames.
abbrev four_given : List Operation
four_given = Grant ∷ Create 4096 8 (17 ∷ []) ∷ replicate 4 (Take 0) ++ (Alloc 1 ∷ Give 0 0 ∷ Give 0 4096 ∷ Give 0 8192 ∷ Give 0 12288 ∷ Create 3000 8 (34 ∷ []) ∷ [])

free_before : map (choice 3 (machine_after four_given)) (0 ∷ 1 ∷ 2 ∷ []) ≡ Some 6 ∷ Some 6 ∷ None ∷ []
unfolding layout_of alloc_step cache_step create_step next_number take_step give_step grown_cache grown slab_to_use choice by_need reaped taken_blocks empty_machine next_slot after_grant
free_before = refl

left_of_it : numbers (four_given ++ (Take 1 ∷ [])) ≡ numbers four_given ++ (Some 0 ∷ [])
unfolding number_of layout_of alloc_step cache_step create_step next_number take_step give_step grown_cache grown slab_to_use fresh_byte choice by_need reaped taken_blocks empty_machine next_slot after_grant
left_of_it = refl
