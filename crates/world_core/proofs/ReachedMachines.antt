-- The machines that private runs leave are well formed, and the laws of taken and free blocks hold for them.
use Rattle.std.proofs.Common.{◌≡◌, ◌↔◌, ℕ, Bool, true, false, List, [], ◌∷◌, ◌++◌, Option, Some, None, Ok, refl, sym, subst}
use Rattle.std.specs.Prelude.{if◌then◌else◌, option_map, MatchOption, ◌==◌, flat_map}
use Rattle.model_core.specs.Blocks.{Block, block, Taken, IsFree, IsChoice, IsWithout, with_taken, without_taken}
use Rattle.model_core.specs.Choice.{choose}
use Rattle.model_core.specs.Machine.{Machine, empty_machine, holds, beyond, taken_blocks, order_in, taken_in, choice, slab_blocks}
use Rattle.model_core.specs.Slabs.{by_need, reaped}
use Rattle.model_core.specs.Operations.{alloc_step, free_at, free_step}
use Rattle.model_core.specs.WellFormed.{IsWellFormed}
use Rattle.model_core.proofs.ReapingByNeed.{by_need_keeps}
use Rattle.model_core.proofs.Outcomes.{alloc_outcome}
use Rattle.model_core.proofs.BlockChoice.{choice_is_found}
use Rattle.model_core.proofs.ChosenBlock.{held_below}
use Rattle.model_core.proofs.FreeBlocks.{each_frame_in_one, splits}
use Rattle.model_core.proofs.BuddyJoins.{joins}
use Rattle.model_core.proofs.TakenSteps.{taken_sound, alloc_takes, free_releases}
use Rattle.model_core.proofs.WellFormedRuns.{runs_well_formed}
use Rattle.world_core.specs.Reached.{operations_in, reached_machine, ReachedWellFormed, ReachedSound, ReachedFreeOnce, ReachedSplits, ReachedJoins}
use Rattle.world_core.proofs.Operations.{entries_are_operations}

pub reached_well_formed : ReachedWellFormed
reached_well_formed limit order entries asked =
    subst (IsWellFormed limit order) (sym (entries_are_operations limit order entries empty_machine))
    (runs_well_formed limit order (flat_map operations_in entries) asked)

pub reached_sound : ReachedSound
reached_sound limit order entries asked = taken_sound limit order (reached_machine limit order entries) (reached_well_formed limit order entries asked)

pub reached_free_once : ReachedFreeOnce
reached_free_once limit order x entries =
    each_frame_in_one order (holds (reached_machine limit order entries)) (taken_in (reached_machine limit order entries)) x

-- if `choice` returns a frame, the block that is chosen among the free blocks begins at this frame and has some order j
chosen_from : (order k first : ℕ) (m : Machine) → choice order m k ≡ Some first → (j : ℕ) × IsChoice order (holds m) (taken_in m) k (block first j)
unfolding choice
chosen_from order k first m e = go (choose order (holds m) (taken_in m) (beyond m.slots) k) e
    (choice_is_found order (holds m) (taken_in m) (beyond m.slots) k (held_below m.slots))
  where
    go : (o : Option Block) → option_map (λ b. b.first) o ≡ Some first → MatchOption o (IsWithout order (holds m) (taken_in m) k) (IsChoice order (holds m) (taken_in m) k)
        → (j : ℕ) × IsChoice order (holds m) (taken_in m) k (block first j)
    go None e c = absurd (cc)
    go (Some b) e c =
        let same : b.first ≡ first = cc in
        (b.order, subst (λ f. IsChoice order (holds m) (taken_in m) k (block f b.order)) same c)

alloc_chooses : (order k first : ℕ) (m : Machine) → (alloc_step order k m).answer ≡ Ok first → choice order (by_need order k m) k ≡ Some first
alloc_chooses order k first m e = alloc_outcome order k m (λ s. s.answer ≡ Ok first → choice order (by_need order k m) k ≡ Some first) (λ _ e. absurd (cc)) (λ g is e. cc) e

-- freeing empty slabs changes no slot
need_holds : (order k : ℕ) (m : Machine) → holds (by_need order k m) ≡ holds m
unfolding reaped
need_holds order k m = by_need_keeps (λ n. holds n ≡ holds m) order k m refl refl

alloc_holds : (order k : ℕ) (m : Machine) → holds (alloc_step order k m).machine ≡ holds (by_need order k m)
alloc_holds order k m = alloc_outcome order k m (λ s. holds s.machine ≡ holds (by_need order k m)) (λ _. sym (need_holds order k m)) (λ _ _. refl)

free_holds : (first : ℕ) (m : Machine) → holds (free_step first m).machine ≡ holds m
unfolding free_step
free_holds first m = go (order_in m.blocks first)
  where
    go : (o : Option ℕ) → holds (free_at first m o).machine ≡ holds m
    go None = refl
    go (Some k) = refl

order_in_front : (xs ys : List Block) (f k : ℕ) → order_in xs f ≡ Some k → order_in (xs ++ ys) f ≡ Some k
order_in_front [] ys f k e = absurd (cc)
order_in_front (x ∷ xs) ys f k e = go (x.first == f) e (order_in_front xs ys f k)
  where
    go : (test : Bool) → (if test then Some x.order else order_in xs f) ≡ Some k → (order_in xs f ≡ Some k → order_in (xs ++ ys) f ≡ Some k)
        → (if test then Some x.order else order_in (xs ++ ys) f) ≡ Some k
    go true e more = e
    go false e more = more e

-- if a `free` returns an order, a taken block of that order began at the frame
free_taken : (first k : ℕ) (m : Machine) → (free_step first m).answer ≡ Some k → taken_in m first ≡ Some k
unfolding free_step taken_blocks
free_taken first k m e = order_in_front m.blocks (flat_map slab_blocks m.caches) first k (go (order_in m.blocks first) e)
  where
    go : (o : Option ℕ) → (free_at first m o).answer ≡ Some k → o ≡ Some k
    go None e = e
    go (Some j) e = e

-- if `IsFree` of block b is equivalent to P, it still is after the slots and the taken blocks are replaced by equal ones
by_account : {P : Type 0} (order : ℕ) (held held' : ℕ → Bool) (taken taken' : Taken) (b : Block) → held' ≡ held → taken' ≡ taken
    → (IsFree order held taken b ↔ P) → IsFree order held' taken' b ↔ P
by_account {P} order held held' taken taken' b slots blocks is =
    subst (λ h. IsFree order h taken' b ↔ P) (sym slots) (subst (λ t. IsFree order held t b ↔ P) (sym blocks) is)

pub reached_splits : ReachedSplits
reached_splits limit order k first entries asked e =
    let m : Machine = reached_machine limit order entries in
    let n : Machine = by_need order k m in
    let from = chosen_from order k first n (alloc_chooses order k first m e) in
    let taken : taken_in (alloc_step order k m).machine ≡ with_taken (taken_in n) first k =
    λ i f. alloc_takes limit order k first m (reached_well_formed limit order entries asked) e f i in
    (from.0, from.1, λ b. by_account order _ _ _ _ b (alloc_holds order k m) taken (splits order (holds n) (taken_in n) first from.0 k from.1.0 from.1.1 b))

pub reached_joins : ReachedJoins
reached_joins limit order first k entries asked e =
    let m : Machine = reached_machine limit order entries in
    let joined = joins order (holds m) (taken_in m) first k (reached_sound limit order entries asked) (free_taken first k m e) in
    let taken : taken_in (free_step first m).machine ≡ without_taken (taken_in m) first =
    λ i f. free_releases limit order first k m (reached_well_formed limit order entries asked) e f i in
    (joined.0, joined.1, λ b. by_account order _ _ _ _ b (free_holds first m) taken (joined.2 b))
