-- Worked examples of the blocks that requests get, checked by computation. Slots have order 3, so each has 8 frames.
use Rattle.std.proofs.Common.{◌≡◌, refl, ℕ, Bool, Some, None, Option, List, [], ◌∷◌}
use Rattle.std.specs.Prelude.{map, filter, ◌++◌, nat_lt, ◌==◌}
use Rattle.model_core.specs.Blocks.{Block, block, buddy, around, Taken, with_taken, without_taken}
use Rattle.model_core.specs.Choice.{choose, is_free}

-- slots 0 to n - 1 are held
abbrev first_slots : ℕ → ℕ → Bool
first_slots n u = nat_lt u n

abbrev nothing : Taken
nothing f = None

-- the map of taken blocks that has exactly the blocks of the list
abbrev blocks_of : List Block → Taken
blocks_of [] = nothing
blocks_of (b ∷ bs) = with_taken (blocks_of bs) b.first b.order

-- all frames from 0 to 7 are taken, in four blocks
abbrev full : Taken
full = blocks_of (block 0 0 ∷ block 1 0 ∷ block 2 1 ∷ block 4 2 ∷ [])

-- the aligned blocks of slot 0
abbrev all_blocks : List Block
all_blocks = map (λ f. block f 0) (0 ∷ 1 ∷ 2 ∷ 3 ∷ 4 ∷ 5 ∷ 6 ∷ 7 ∷ []) ++ map (λ f. block f 1) (0 ∷ 2 ∷ 4 ∷ 6 ∷ []) ++ block 0 2 ∷ block 4 2 ∷ block 0 3 ∷ []

abbrev serve_rest : Taken → ℕ → Option Block → (Taken → List (Option ℕ)) → List (Option ℕ)
serve_rest taken k None rest = None ∷ rest taken
serve_rest taken k (Some b) rest = Some b.first ∷ rest (with_taken taken b.first k)

-- The first frames of the blocks that requests for these orders get, one after the other. None is the result of a request that
-- gets nothing. Slots 0 to n - 1 are held.
abbrev serve : ℕ → Taken → List ℕ → List (Option ℕ)
serve n taken [] = []
serve n taken (k ∷ ks) = serve_rest taken k (choose 3 (first_slots n) taken n k) (λ after. serve n after ks)

-- if no slot is held, a request gets nothing
empty : serve 0 nothing (0 ∷ []) ≡ None ∷ []
empty = refl

-- the first request splits the slot, the next three get the upper halves of its splits, and the fifth gets nothing
splits_then_exhaustion : serve 1 nothing (0 ∷ 1 ∷ 2 ∷ 0 ∷ 0 ∷ []) ≡ Some 0 ∷ Some 2 ∷ Some 4 ∷ Some 1 ∷ None ∷ []
splits_then_exhaustion = refl

-- after frame 0 is reserved, exactly the upper halves of the splits are free
upper_halves : filter (λ b. is_free 3 (first_slots 1) (blocks_of (block 0 0 ∷ [])) b) all_blocks ≡ block 1 0 ∷ block 2 1 ∷ block 4 2 ∷ []
upper_halves = refl

-- after the blocks at frames 0, 1, 2 and 4 are released, they are joined to one block of order 3
joins : choose 3 (first_slots 1) (without_taken (without_taken (without_taken (without_taken full 0) 1) 2) 4) 1 0 ≡ Some (block 0 3)
joins = refl

-- if frame 0 is released while its buddy, frame 1, is taken, the two are not joined
not_joined : filter (λ b. is_free 3 (first_slots 1) (without_taken full 0) b) all_blocks ≡ block 0 0 ∷ []
not_joined = refl

-- Frame 0 is free but too small for order 1, so a request for order 1 gets frames 4 and 5. A request for order 0 then
-- gets frame 0.
too_small_passed_over : serve 1 (without_taken (without_taken full 0) 4) (1 ∷ 0 ∷ []) ≡ Some 4 ∷ Some 0 ∷ []
too_small_passed_over = refl

-- The least order goes before the least frame: if slot 0 is whole and slot 1 is split, a request for order 0 gets a frame of
-- slot 1.
order_before_frame : serve 2 (blocks_of (block 8 0 ∷ [])) (0 ∷ 3 ∷ 0 ∷ []) ≡ Some 9 ∷ Some 0 ∷ Some 10 ∷ []
order_before_frame = refl

-- if slot 1 is held without slot 0, the choice is the whole of slot 1
only_slot_1 : choose 3 (λ u. u == 1) nothing 2 0 ≡ Some (block 8 3)
only_slot_1 = refl

lower_buddy : buddy (block 4 2) ≡ block 0 2
lower_buddy = refl

upper_buddy : buddy (block 8 1) ≡ block 10 1
upper_buddy = refl

around_frame_13 : around 13 2 ≡ block 12 2
around_frame_13 = refl
