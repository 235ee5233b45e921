-- Worked examples of page blocks, checked by computation. Slots have 8 frames.
use Rattle.std.proofs.Common.{◌≡◌, refl, List, [], ◌∷◌, ◌++◌, Some, None, Ok, Err}
use Rattle.model_core.specs.declared.refusals.AllocRefusal.{AllocRefusal}
use Rattle.model_core.specs.declared.refusals.ReadRefusal.{ReadRefusal}
use Rattle.model_core.specs.declared.refusals.TakeBackRefusal.{TakeBackRefusal}
use Rattle.model_core.specs.Machine.{empty_machine, taken_blocks, choice}
use Rattle.model_core.specs.Slabs.{reaped, by_need}
use Rattle.model_core.specs.Reach.{in_reach}
use Rattle.model_core.specs.Operations.{alloc_step, free_step, read_step, write_step, next_slot, after_grant, is_busy, after_take_back, take_back_step}
use Rattle.model_core.specs.Runs.{Operation, Alloc, Free, Write, Grant, TakeBack, Reset}
use Rattle.model_core.proofs.RowAnswers.{number_of, numbers, machine_after}

-- a machine without slots refuses a page block
no_slots : (alloc_step 3 0 empty_machine).answer ≡ Err AllocRefusal.NoFrames
unfolding alloc_step by_need reaped choice taken_blocks empty_machine
no_slots = refl

-- Requests for orders 0, 1, 2 and 0 get the blocks at frames 0, 2, 4 and 1. The slot is then used up, so a request for order 0 is
-- refused. A request for an order above the order of a slot is refused as well.
abbrev four_blocks : List Operation
four_blocks = Grant ∷ Alloc 0 ∷ Alloc 1 ∷ Alloc 2 ∷ Alloc 0 ∷ []

splits : numbers four_blocks ≡ Some 0 ∷ Some 0 ∷ Some 2 ∷ Some 4 ∷ Some 1 ∷ []
unfolding number_of alloc_step by_need reaped choice taken_blocks empty_machine next_slot after_grant
splits = refl

exhausted : (alloc_step 3 0 (machine_after four_blocks)).answer ≡ Err AllocRefusal.NoFrames
unfolding alloc_step by_need reaped choice taken_blocks empty_machine next_slot after_grant
exhausted = refl

above_the_order : (alloc_step 3 4 (machine_after four_blocks)).answer ≡ Err AllocRefusal.BadOrder
unfolding alloc_step by_need reaped choice taken_blocks empty_machine next_slot after_grant
above_the_order = refl

-- after all four blocks are freed, the slot is one free block of order 3 again
joins : numbers (four_blocks ++ (Free 0 ∷ Free 1 ∷ Free 2 ∷ Free 4 ∷ Alloc 3 ∷ []))
    ≡ Some 0 ∷ Some 0 ∷ Some 2 ∷ Some 4 ∷ Some 1 ∷ Some 0 ∷ Some 0 ∷ Some 1 ∷ Some 2 ∷ Some 0 ∷ []
unfolding number_of alloc_step free_step by_need reaped choice taken_blocks empty_machine next_slot after_grant
joins = refl

-- Frame 0 and the block at frame 4 are free. A request for order 1 gets frames 4 and 5, because frame 0 alone is too small. A
-- request for order 0 then gets frame 0.
too_small : numbers (four_blocks ++ (Free 0 ∷ Free 4 ∷ Alloc 1 ∷ Alloc 0 ∷ []))
    ≡ Some 0 ∷ Some 0 ∷ Some 2 ∷ Some 4 ∷ Some 1 ∷ Some 0 ∷ Some 2 ∷ Some 4 ∷ Some 0 ∷ []
unfolding number_of alloc_step free_step by_need reaped choice taken_blocks empty_machine next_slot after_grant
too_small = refl

-- A grant gives the least slot that is not held. A request for order 0 gets a frame of slot 1, which is split, and not of slot 0,
-- which is whole: the least order goes before the least frame.
two_slots : numbers (Grant ∷ Grant ∷ TakeBack 0 ∷ Alloc 0 ∷ Grant ∷ Alloc 0 ∷ Alloc 3 ∷ [])
    ≡ Some 0 ∷ Some 1 ∷ Some 0 ∷ Some 8 ∷ Some 0 ∷ Some 9 ∷ Some 0 ∷ []
unfolding number_of alloc_step take_back_step is_busy after_take_back by_need reaped choice taken_blocks empty_machine next_slot after_grant
two_slots = refl

-- a slot with a taken frame cannot be taken back, and neither can a slot that is not held
busy : (take_back_step 3 0 (machine_after (Grant ∷ Alloc 0 ∷ []))).answer ≡ Err TakeBackRefusal.SlotBusy
unfolding alloc_step take_back_step is_busy by_need reaped choice taken_blocks empty_machine next_slot after_grant
busy = refl

not_held : (take_back_step 3 1 (machine_after (Grant ∷ Alloc 0 ∷ []))).answer ≡ Err TakeBackRefusal.NoSlot
unfolding alloc_step take_back_step by_need reaped choice taken_blocks empty_machine next_slot after_grant
not_held = refl

-- a block of a newly granted slot reads as zero, and a block that is freed and allocated again has the same bytes
abbrev written_and_released : List Operation
written_and_released = Grant ∷ Alloc 0 ∷ Write 0 (10 ∷ 11 ∷ []) ∷ Free 0 ∷ Alloc 0 ∷ []

own_bytes : (read_step 0 3 (machine_after written_and_released)).answer ≡ Ok (10 ∷ 11 ∷ 0 ∷ [])
unfolding alloc_step free_step write_step read_step in_reach by_need reaped choice taken_blocks empty_machine next_slot after_grant
own_bytes = refl

-- a slot that is taken back and granted again reads as zero
scrubbed : (read_step 0 3 (machine_after (Grant ∷ Alloc 0 ∷ Write 0 (10 ∷ 11 ∷ []) ∷ Free 0 ∷ TakeBack 0 ∷ Grant ∷ Alloc 0 ∷ []))).answer ≡ Ok (0 ∷ 0 ∷ 0 ∷ [])
unfolding alloc_step free_step write_step read_step take_back_step is_busy after_take_back in_reach by_need reaped choice taken_blocks empty_machine next_slot after_grant
scrubbed = refl

-- A range within a page block is in reach. A range from one block into the next is not, nor is a range far away. A read of 0 or
-- 65 bytes is refused for its length.
abbrev two_frames : List Operation
two_frames = Grant ∷ Alloc 0 ∷ Alloc 0 ∷ []

in_one_block : (read_step 4095 1 (machine_after two_frames)).answer ≡ Ok (0 ∷ [])
unfolding alloc_step read_step in_reach by_need reaped choice taken_blocks empty_machine next_slot after_grant
in_one_block = refl

across_blocks : (read_step 4095 2 (machine_after two_frames)).answer ≡ Err ReadRefusal.OutOfReach
unfolding alloc_step read_step in_reach by_need reaped choice taken_blocks empty_machine next_slot after_grant
across_blocks = refl

far_away : (read_step 4294967295 64 (machine_after two_frames)).answer ≡ Err ReadRefusal.OutOfReach
unfolding alloc_step read_step in_reach by_need reaped choice taken_blocks empty_machine next_slot after_grant
far_away = refl

no_bytes : (read_step 0 0 (machine_after two_frames)).answer ≡ Err ReadRefusal.BadLength
unfolding alloc_step read_step by_need reaped choice taken_blocks empty_machine next_slot after_grant
no_bytes = refl

too_many : (read_step 4294967295 65 (machine_after two_frames)).answer ≡ Err ReadRefusal.BadLength
unfolding alloc_step read_step by_need reaped choice taken_blocks empty_machine next_slot after_grant
too_many = refl

-- a block can be freed only once, and only at its first frame
released_twice : numbers (Grant ∷ Alloc 0 ∷ Free 1 ∷ Free 0 ∷ Free 0 ∷ []) ≡ Some 0 ∷ Some 0 ∷ None ∷ Some 0 ∷ None ∷ []
unfolding number_of alloc_step free_step by_need reaped choice taken_blocks empty_machine next_slot after_grant
released_twice = refl

-- after a reset the machine is the empty machine
after_reset : machine_after (Grant ∷ Alloc 0 ∷ Reset ∷ []) ≡ empty_machine
after_reset = refl
