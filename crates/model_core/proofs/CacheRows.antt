-- Worked examples of caches and slabs, checked by computation. Slots have 8 frames.
use Rattle.std.proofs.Common.{◌≡◌, refl, List, [], ◌∷◌, ◌++◌, map, replicate, Some, None, Ok, Err}
use Rattle.std.specs.List.{range_with_len}
use Rattle.model_core.specs.declared.limits.TheConstants.{MAX_CACHES}
use Rattle.model_core.specs.declared.refusals.ReadRefusal.{ReadRefusal}
use Rattle.model_core.specs.declared.refusals.CacheRefusal.{CacheRefusal}
use Rattle.model_core.specs.declared.refusals.TakeRefusal.{TakeRefusal}
use Rattle.model_core.specs.declared.refusals.GiveRefusal.{GiveRefusal}
use Rattle.model_core.specs.declared.refusals.DestroyRefusal.{DestroyRefusal}
use Rattle.model_core.specs.Layouts.{layout_of}
use Rattle.model_core.specs.Machine.{empty_machine, taken_blocks, choice}
use Rattle.model_core.specs.Slabs.{fresh_byte, grown_cache, grown, slab_to_use, reaped, by_need, destroyed}
use Rattle.model_core.specs.Reach.{in_reach}
use Rattle.model_core.specs.Operations.{alloc_step, free_step, read_step, write_step, next_slot, after_grant, is_busy, take_back_step}
use Rattle.model_core.specs.CacheOperations.{create_step, cache_step, next_number, take_step, give_step, destroy_step, reap_step}
use Rattle.model_core.specs.Runs.{Operation, Alloc, Free, Write, Create, Take, Give, Destroy, Reap, Grant, TakeBack}
use Rattle.model_core.proofs.RowAnswers.{number_of, numbers, machine_after}

-- twenty objects of 200 bytes fill a slab; in the next slab the first object is at the next colour offset, 8
colours : numbers (Grant ∷ Create 200 8 (165 ∷ []) ∷ replicate 21 (Take 0))
    ≡ Some 0 ∷ Some 0 ∷ (map (λ i. Some i) (0 ∷ 200 ∷ 400 ∷ 600 ∷ 800 ∷ 1000 ∷ 1200 ∷ 1400 ∷ 1600 ∷ 1800 ∷ 2000 ∷ 2200 ∷ 2400 ∷ 2600 ∷ 2800 ∷ 3000 ∷ 3200 ∷ 3400 ∷ 3600 ∷ 3800 ∷ []) ++ Some 4104 ∷ [])
unfolding number_of layout_of cache_step create_step next_number take_step grown_cache grown slab_to_use fresh_byte by_need reaped choice taken_blocks empty_machine next_slot after_grant
colours = refl

-- five objects of 3000 bytes fill a slab of four frames; the sixth is in the next slab, at colour offset 8
large_slabs : numbers (Grant ∷ Create 3000 8 (1 ∷ []) ∷ replicate 6 (Take 0))
    ≡ Some 0 ∷ Some 0 ∷ Some 0 ∷ Some 3000 ∷ Some 6000 ∷ Some 9000 ∷ Some 12000 ∷ Some 16392 ∷ []
unfolding number_of layout_of cache_step create_step next_number take_step grown_cache grown slab_to_use fresh_byte by_need reaped choice taken_blocks empty_machine next_slot after_grant
large_slabs = refl

-- The partial slab at frame 0 is used before the empty slab at frame 1. An object that is given back and taken again has the same
-- bytes as before. A cache can be destroyed only if none of its objects is live.
abbrev three_taken : List Operation
three_taken = Grant ∷ Create 2048 8 (17 ∷ []) ∷ Take 0 ∷ Take 0 ∷ Take 0 ∷ Write 2048 (34 ∷ []) ∷ Give 0 4096 ∷ Give 0 2048 ∷ Take 0 ∷ []

partial_before_empty : numbers three_taken ≡ Some 0 ∷ Some 0 ∷ Some 0 ∷ Some 2048 ∷ Some 4096 ∷ Some 1 ∷ Some 4096 ∷ Some 2048 ∷ Some 2048 ∷ []
unfolding number_of layout_of cache_step create_step next_number take_step give_step write_step in_reach grown_cache grown slab_to_use fresh_byte by_need reaped choice taken_blocks empty_machine next_slot after_grant
partial_before_empty = refl

bytes_kept : (read_step 2048 2 (machine_after three_taken)).answer ≡ Ok (34 ∷ 17 ∷ [])
unfolding layout_of cache_step create_step next_number take_step give_step read_step write_step in_reach grown_cache grown slab_to_use fresh_byte by_need reaped choice taken_blocks empty_machine next_slot after_grant
bytes_kept = refl

in_use : (destroy_step 0 (machine_after three_taken)).answer ≡ Err DestroyRefusal.CacheInUse
unfolding layout_of cache_step create_step next_number take_step give_step destroy_step write_step in_reach grown_cache grown slab_to_use fresh_byte by_need reaped choice taken_blocks empty_machine next_slot after_grant
in_use = refl

given_and_destroyed : numbers (three_taken ++ (Give 0 0 ∷ Give 0 2048 ∷ Destroy 0 ∷ Take 0 ∷ []))
    ≡ numbers three_taken ++ (Some 0 ∷ Some 2048 ∷ Some 2 ∷ None ∷ [])
unfolding number_of layout_of cache_step create_step next_number take_step give_step destroy_step destroyed write_step in_reach grown_cache grown slab_to_use fresh_byte by_need reaped choice taken_blocks empty_machine next_slot after_grant
given_and_destroyed = refl

-- An object of a new slab reads as the pattern. The bytes between objects are out of reach, and so is an object that was given
-- back.
abbrev one_object : List Operation
one_object = Grant ∷ Create 100 8 (90 ∷ []) ∷ Take 0 ∷ []

constructed : (read_step 0 2 (machine_after one_object)).answer ≡ Ok (90 ∷ 90 ∷ [])
unfolding layout_of cache_step create_step next_number take_step read_step in_reach grown_cache grown slab_to_use fresh_byte by_need reaped choice taken_blocks empty_machine next_slot after_grant
constructed = refl

slack : (read_step 99 2 (machine_after one_object)).answer ≡ Err ReadRefusal.OutOfReach
unfolding layout_of cache_step create_step next_number take_step read_step in_reach grown_cache grown slab_to_use fresh_byte by_need reaped choice taken_blocks empty_machine next_slot after_grant
slack = refl

given : (read_step 0 1 (machine_after (one_object ++ (Give 0 0 ∷ [])))).answer ≡ Err ReadRefusal.OutOfReach
unfolding layout_of cache_step create_step next_number take_step give_step read_step in_reach grown_cache grown slab_to_use fresh_byte by_need reaped choice taken_blocks empty_machine next_slot after_grant
given = refl

-- after a slab is freed, its objects and its control record read as zero
abbrev reaped_and_taken : List Operation
reaped_and_taken = one_object ++ (Give 0 0 ∷ Reap ∷ Alloc 0 ∷ [])

scrubbed : numbers reaped_and_taken ≡ Some 0 ∷ Some 0 ∷ Some 0 ∷ Some 0 ∷ Some 1 ∷ Some 0 ∷ []
unfolding number_of layout_of cache_step create_step next_number take_step give_step reap_step reaped alloc_step grown_cache grown slab_to_use fresh_byte by_need choice taken_blocks empty_machine next_slot after_grant
scrubbed = refl

reads_zero : (read_step 0 2 (machine_after reaped_and_taken)).answer ≡ Ok (0 ∷ 0 ∷ [])
unfolding layout_of cache_step create_step next_number take_step give_step reap_step reaped alloc_step read_step in_reach grown_cache grown slab_to_use fresh_byte by_need choice taken_blocks empty_machine next_slot after_grant
reads_zero = refl

record_reads_zero : (read_step 4064 2 (machine_after reaped_and_taken)).answer ≡ Ok (0 ∷ 0 ∷ [])
unfolding layout_of cache_step create_step next_number take_step give_step reap_step reaped alloc_step read_step in_reach grown_cache grown slab_to_use fresh_byte by_need choice taken_blocks empty_machine next_slot after_grant
record_reads_zero = refl

-- A slab cannot be freed as a page block, and its slot cannot be taken back before a reap frees the slab. An object can be given
-- back only once, and only at its first byte. A give to a cache that does not exist is refused, and so is a take without a slot.
abbrev a_slab : List Operation
a_slab = Grant ∷ Alloc 0 ∷ Free 0 ∷ Create 64 8 (0 ∷ []) ∷ Take 0 ∷ []

wrong_frees : numbers (a_slab ++ (Free 0 ∷ Give 0 1 ∷ Give 0 0 ∷ Give 0 0 ∷ Give 1 0 ∷ TakeBack 0 ∷ Reap ∷ TakeBack 0 ∷ []))
    ≡ numbers a_slab ++ (None ∷ None ∷ Some 0 ∷ None ∷ None ∷ None ∷ Some 1 ∷ Some 0 ∷ [])
unfolding number_of layout_of alloc_step free_step cache_step create_step next_number take_step give_step reap_step reaped take_back_step is_busy grown_cache grown slab_to_use fresh_byte by_need choice taken_blocks empty_machine next_slot after_grant
wrong_frees = refl

not_an_object : (give_step 0 1 (machine_after a_slab)).answer ≡ Err GiveRefusal.NotAnObject
unfolding layout_of alloc_step free_step cache_step create_step next_number take_step give_step grown_cache grown slab_to_use fresh_byte by_need reaped choice taken_blocks empty_machine next_slot after_grant
not_an_object = refl

no_cache : (give_step 1 0 (machine_after a_slab)).answer ≡ Err GiveRefusal.NoCache
unfolding layout_of alloc_step free_step cache_step create_step next_number take_step give_step grown_cache grown slab_to_use fresh_byte by_need reaped choice taken_blocks empty_machine next_slot after_grant
no_cache = refl

no_frames : (take_step 3 0 (machine_after (Create 64 8 (0 ∷ []) ∷ []))).answer ≡ Err TakeRefusal.NoFrames
unfolding layout_of cache_step create_step next_number take_step slab_to_use by_need reaped choice taken_blocks empty_machine
no_frames = refl

-- a tenant has up to 32 caches, with the numbers 0 to 31; the number of a destroyed cache is used again
abbrev all_caches : List Operation
all_caches = replicate MAX_CACHES (Create 16 8 (0 ∷ []))

cache_numbers : numbers (all_caches ++ (Create 16 8 (0 ∷ []) ∷ Destroy 3 ∷ Create 16 8 (0 ∷ []) ∷ []))
    ≡ map (λ c. Some c) (range_with_len 0 MAX_CACHES) ++ (None ∷ Some 0 ∷ Some 3 ∷ [])
unfolding number_of layout_of cache_step create_step next_number destroy_step destroyed empty_machine
cache_numbers = refl

no_cache_slot : (cache_step MAX_CACHES 16 8 (0 ∷ []) (machine_after all_caches)).answer ≡ Err CacheRefusal.NoCacheSlot
unfolding cache_step create_step next_number empty_machine
no_cache_slot = refl

-- the size is checked before the alignment
bad_size : (cache_step MAX_CACHES 0 12 (0 ∷ []) empty_machine).answer ≡ Err CacheRefusal.BadSize
unfolding cache_step create_step
bad_size = refl

bad_align : (cache_step MAX_CACHES 1 12 (0 ∷ []) empty_machine).answer ≡ Err CacheRefusal.BadAlign
unfolding cache_step create_step
bad_align = refl
