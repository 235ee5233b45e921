-- One instance of each law of blocks, over the slots and the taken blocks of a machine. Slots have order 3, which is 8 frames.
use Rattle.std.proofs.Common.{◌≡◌, ◌⊎◌, ℕ, zero, suc, ◌/◌, ◌^◌, ◌<◌, ◌≤◌, Bool, true, false, [], ◌∷◌, Some, None, refl, sym, ap, ◌∙◌, inl, inr, arith}
use Rattle.std.specs.Prelude.{◌==◌, ◌||◌, if◌then◌else◌}
use Rattle.std.proofs.lemmas.Bool.{eqb-true, eqb-false, or_right, false≢true}
use Rattle.model_core.specs.declared.limits.TheConstants.{MAX_CACHES}
use Rattle.model_core.specs.Blocks.{Block, block, HasFrame, IsAligned, around, buddy, slot_block, Taken, with_taken, without_taken, IsTaken, HasTaken, IsFree, IsChoice, IsWithout, IsSound}
use Rattle.model_core.specs.BlockLaws.{EachFrameInOne, Splits, Joins, ReservedIsUntaken, ReserveStaysSound, ReleaseStaysSound, GrantStaysSound, TakeBackStaysSound, FreeIsTested, ChoiceIsFound, OneChoice}
use Rattle.model_core.specs.Layouts.{layout_of}
use Rattle.model_core.specs.Machine.{Machine, empty_machine, holds, taken_blocks, taken_in, choice}
use Rattle.model_core.specs.Slabs.{grown_cache, grown, slab_to_use, reaped, by_need}
use Rattle.model_core.specs.Operations.{alloc_step, next_slot, after_grant}
use Rattle.model_core.specs.CacheOperations.{create_step, cache_step, next_number, take_step}
use Rattle.model_core.specs.Runs.{Alloc, Grant}
use Rattle.model_core.proofs.BlockChoice.{free_is_tested, choice_is_found}
use Rattle.model_core.proofs.ChosenBlock.{held_below, choice_is_untaken}
use Rattle.model_core.proofs.TakenSteps.{taken_sound}
use Rattle.model_core.proofs.Witnesses.{well_formed_left, machine, is_well_formed}
use Rattle.model_core.proofs.RowAnswers.{machine_after}

-- In slot 0, frame 0 is a slab and frame 1 is a page block. The free blocks are one of order 1 at frame 2 and one of order 2 at
-- frame 4.

abbrev held : ℕ → Bool
held = holds machine

abbrev taken : Taken
taken = taken_in machine

sound : IsSound 3 held taken
sound = taken_sound MAX_CACHES 3 machine is_well_formed

slot_0_below : (u : ℕ) → held u ≡ true → u < 1
unfolding layout_of alloc_step cache_step create_step next_number take_step grown_cache grown slab_to_use by_need reaped choice taken_blocks empty_machine next_slot after_grant
slot_0_below u e = held_below (0 ∷ []) u e

upper_half_free : IsFree 3 held taken (block 4 2)
unfolding layout_of alloc_step cache_step create_step next_number take_step grown_cache grown slab_to_use by_need reaped choice taken_blocks empty_machine next_slot after_grant
upper_half_free = (free_is_tested 3 held taken (block 4 2)).0 refl

FreeIsTested-met : FreeIsTested → IsFree 3 held taken (block 2 1) × (IsFree 3 held taken (block 4 1) → ⊥)
unfolding layout_of alloc_step cache_step create_step next_number take_step grown_cache grown slab_to_use by_need reaped choice taken_blocks empty_machine next_slot after_grant
FreeIsTested-met law = ((law 3 held taken (block 2 1)).0 refl, λ free. absurd (false≢true ((law 3 held taken (block 4 1)).1 free)))

ChoiceIsFound-met : ChoiceIsFound → IsChoice 3 held taken 0 (block 2 1) × IsWithout 3 held taken 3
unfolding layout_of alloc_step cache_step create_step next_number take_step grown_cache grown slab_to_use by_need reaped choice taken_blocks empty_machine next_slot after_grant
ChoiceIsFound-met law = (law 3 held taken 1 0 slot_0_below, law 3 held taken 1 3 slot_0_below)

OneChoice-met : OneChoice → (b : Block) → IsChoice 3 held taken 0 b → b ≡ block 2 1
unfolding layout_of alloc_step cache_step create_step next_number take_step grown_cache grown slab_to_use by_need reaped choice taken_blocks empty_machine next_slot after_grant
OneChoice-met law b is = law 3 held taken 0 b (block 2 1) is (choice_is_found 3 held taken 1 0 slot_0_below)

-- the free block of order 2 at frame 4 is the only free block that has frame 5
EachFrameInOne-met : EachFrameInOne → (b : Block) → IsFree 3 held taken b → HasFrame b 5 → b ≡ block 4 2
unfolding layout_of alloc_step cache_step create_step next_number take_step grown_cache grown slab_to_use by_need reaped choice taken_blocks empty_machine next_slot after_grant
EachFrameInOne-met law b free has =
    let only = law 3 held taken 5 refl ((choice_is_untaken 3 2 4 machine refl).1 5 (omega arith, omega arith)).1 in
    only.3 b free has ∙ sym (only.3 (block 4 2) upper_half_free (omega arith, omega arith))

-- Frame 4 is reserved: the free block of order 2 at frame 4 is split twice. The upper half of each split is then free: the block
-- of order 1 at frame 6, and the block of order 0 at frame 5.
Splits-met : Splits → IsFree 3 held (with_taken taken 4 0) (block 5 0) × IsFree 3 held (with_taken taken 4 0) (block 6 1)
Splits-met law = (
  (law 3 held taken 4 2 0 upper_half_free (omega arith) (block 5 0)).1 (inr (0, omega arith, omega arith, refl)),
  (law 3 held taken 4 2 0 upper_half_free (omega arith) (block 6 1)).1 (inr (1, omega arith, omega arith, refl)),
)

ReservedIsUntaken-met : ReservedIsUntaken → IsAligned 3 (block 4 1) × ((x : ℕ) → HasFrame (block 4 1) x → (held (x / 8) ≡ true) × (IsTaken taken x → ⊥))
ReservedIsUntaken-met law = law 3 held taken 4 2 1 upper_half_free (omega arith)

ReserveStaysSound-met : ReserveStaysSound → IsSound 3 held (with_taken taken 4 1)
ReserveStaysSound-met law = law 3 held taken 4 2 1 sound upper_half_free (omega arith)

ReleaseStaysSound-met : ReleaseStaysSound → IsSound 3 held (without_taken taken 1)
ReleaseStaysSound-met law = law 3 held taken 1 sound

-- slot 1 is granted too
GrantStaysSound-met : GrantStaysSound → IsSound 3 (λ u. (u == 1) || held u) taken
GrantStaysSound-met law = law 3 held (λ u. (u == 1) || held u) taken sound (λ u is. or_right (u == 1) (held u) is)

-- In `one_frame`, slots 0 and 1 are held, and only frame 0 is taken.

abbrev one_frame : Machine
one_frame = machine_after (Grant ∷ Grant ∷ Alloc 0 ∷ [])

one_sound : IsSound 3 (holds one_frame) (taken_in one_frame)
one_sound = taken_sound MAX_CACHES 3 one_frame (well_formed_left (Grant ∷ Grant ∷ Alloc 0 ∷ []) (tt, (tt, (tt, tt))))

-- at each order below 3, the block around frame 0 has a free buddy
up_to_the_slot : (j : ℕ) → j ≤ 3 → (j ≡ 3) ⊎ (IsFree 3 (holds one_frame) (taken_in one_frame) (buddy (around 0 j)) → ⊥) → j ≡ 3
unfolding layout_of alloc_step cache_step create_step next_number take_step grown_cache grown slab_to_use by_need reaped choice taken_blocks empty_machine next_slot after_grant
up_to_the_slot j within (inl whole) = whole
up_to_the_slot zero within (inr taken) = absurd (taken ((free_is_tested 3 (holds one_frame) (taken_in one_frame) (block 1 0)).0 refl))
up_to_the_slot (suc zero) within (inr taken) = absurd (taken ((free_is_tested 3 (holds one_frame) (taken_in one_frame) (block 2 1)).0 refl))
up_to_the_slot (suc (suc zero)) within (inr taken) = absurd (taken ((free_is_tested 3 (holds one_frame) (taken_in one_frame) (block 4 2)).0 refl))
up_to_the_slot (suc (suc (suc j))) within (inr taken) = omega arith

-- so a release of frame 0 joins it with all these buddies, and the whole of slot 0 is free
Joins-met : Joins → IsFree 3 (holds one_frame) (without_taken (taken_in one_frame) 0) (block 0 3)
unfolding layout_of alloc_step cache_step create_step next_number take_step grown_cache grown slab_to_use by_need reaped choice taken_blocks empty_machine next_slot after_grant
Joins-met law =
    let joined = law 3 (holds one_frame) (taken_in one_frame) 0 0 one_sound refl in
    let whole : joined.0 ≡ 3 = up_to_the_slot joined.0 joined.1.within joined.1.stops in
    (joined.2 (block 0 3)).1 (inl (ap (λ j. around 0 j) (sym whole)))

-- no frame of a slot other than slot 0 is taken
untaken_elsewhere : (u : ℕ) → 0 == u ≡ false → HasTaken (taken_in one_frame) (slot_block 3 u) → ⊥
unfolding layout_of alloc_step cache_step create_step next_number take_step grown_cache grown slab_to_use by_need reaped choice taken_blocks empty_machine next_slot after_grant
untaken_elsewhere u other (x, in_slot, (f, k, at, in_block)) = go (0 == f) refl at
  where
    go : (b : Bool) → 0 == f ≡ b → (if b then Some 0 else None) ≡ Some k → ⊥
    go true is e =
        let first : 0 ≡ f = eqb-true 0 f is in
        let one : 2 ^ k ≡ 1 = (let zeroth : 0 ≡ k = cc in ap (λ n. 2 ^ n) (sym zeroth)) in
        eqb-false 0 u other (omega (arith, in_slot.0, in_block.1))
    go false is e = absurd (cc)

-- so the taken blocks are still sound after slot 1 is taken back
TakeBackStaysSound-met : TakeBackStaysSound → IsSound 3 (λ u. 0 == u) (taken_in one_frame)
TakeBackStaysSound-met law = law 3 (holds one_frame) (λ u. 0 == u) (taken_in one_frame) one_sound (λ u is. kept u (0 == u) refl)
  where
    kept : (u : ℕ) (b : Bool) → 0 == u ≡ b → (0 == u ≡ true) ⊎ (HasTaken (taken_in one_frame) (slot_block 3 u) → ⊥)
    kept u true is = inl is
    kept u false is = inr (untaken_elsewhere u is)
