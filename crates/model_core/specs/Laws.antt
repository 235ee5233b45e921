-- The laws of the machine. The contracts of the module `laws` state them.
use Rattle.std.specs.Prelude.{◌≡◌, ℕ, ◌+◌, ◌*◌, ◌/◌, ◌^◌, ◌<◌, ◌≤◌, Bool, true, false, List, [], ◌∷◌, ◌++◌, Option, Some, None, Ok, OnErr, option_map, option_and_then, is_some, if◌then◌else◌, find, flat_map, Contains, AllPairs, ◌==◌}
use Rattle.std.specs.Option.{option_map_or}
use Rattle.std.specs.Result.{result_ok}
use Rattle.model_core.specs.declared.limits.TheConstants.{FRAME_BYTES, RECORD_OFFSET}
use Rattle.model_core.specs.declared.refusals.AllocRefusal.{AllocRefusal}
use Rattle.model_core.specs.declared.refusals.TakeRefusal.{TakeRefusal}
use Rattle.model_core.specs.Blocks.{Block, block, HasFrame, IsAligned, Taken, with_taken, without_taken, IsTaken, IsChoice, IsWithout, IsSound}
use Rattle.model_core.specs.Layouts.{is_small, object_place, pattern_byte}
use Rattle.model_core.specs.Machine.{Slab, Cache, Machine, empty_machine, holds, in_block, layout, taken_blocks, order_in, taken_in, choice}
use Rattle.model_core.specs.Slabs.{is_partial, is_empty, cache_of, new_slab, grown_cache, grown, slab_to_use, empty_blocks, reaped, by_need, choice_by_need}
use Rattle.model_core.specs.Operations.{Step, refuse, with_block, alloc_step, free_step}
use Rattle.model_core.specs.CacheOperations.{hand_out, take_step}
use Rattle.model_core.specs.Runs.{Operation, IsPossible, ArePossible, after, run}
use Rattle.model_core.specs.WellFormed.{IsApart, IsWellFormed}

-- the block that a request gets is aligned, and all its frames lie in held slots and are not taken
abbrev pub ChoiceIsUntaken : Type 0
ChoiceIsUntaken = (order k first : ℕ) (m : Machine) → choice order m k ≡ Some first
    → IsAligned order (block first k)
    × ((x : ℕ) → HasFrame (block first k) x → (holds m (x / 2 ^ order) ≡ true) × (IsTaken (taken_in m) x → ⊥))

-- If `held` and `taken` agree with the held slots and taken blocks of the machine, the choice for `held` and `taken` is the
-- choice of the machine. If no free block has order k or more, the choice of the machine is None.
abbrev pub ChoicesMeet : Type 0
ChoicesMeet = (order k : ℕ) (held : ℕ → Bool) (taken : Taken) (m : Machine) → ((u : ℕ) → holds m u ≡ held u)
    → ((f : ℕ) → taken_in m f ≡ taken f)
    → ((first j : ℕ) → IsChoice order held taken k (block first j) → choice order m k ≡ Some first)
    × (IsWithout order held taken k → choice order m k ≡ None)

-- `step` is what a request for a block of order k does to machine m. `served first n` is the step that serves the request with
-- the block at frame `first` of machine n. `refused` is the step that refuses the request.
pub record IsByNeed {A : Type 0} (order k : ℕ) (m : Machine) (served : ℕ → Machine → Step A)
    (refused step : Step A) : Type 0 where
  -- if a free block is large enough, no slab is freed
  pub found : (first : ℕ) → choice order m k ≡ Some first → step ≡ served first m
  -- if no free block is large enough, but one would be after all empty slabs are freed, exactly these slabs are freed first
  pub reaps : (first : ℕ) → choice order m k ≡ None → choice order (reaped m) k ≡ Some first → step ≡ served first (reaped m)
  -- if no free block would be large enough even then, the request is refused
  pub stays : choice order m k ≡ None → choice order (reaped m) k ≡ None → step ≡ refused

-- an alloc frees empty slabs only on demand ..
abbrev pub AllocReaps : Type 0
AllocReaps = (order k : ℕ) (m : Machine) → k ≤ order → IsByNeed order k m
    (λ first n. record { answer = Ok first; machine = with_block (block first k) n })
    (refuse AllocRefusal.NoFrames m) (alloc_step order k m)

-- .. and so does a take from a cache that has neither a partial slab nor an empty one
abbrev pub TakeReaps : Type 0
TakeReaps = (order number : ℕ) (m : Machine) (c : Cache) → cache_of m number ≡ Some c
    → slab_to_use (find is_partial c.slabs) (find is_empty c.slabs) ≡ None
    → IsByNeed order (layout c).order m
    (λ first n. hand_out (grown_cache first c) (new_slab c first) (grown first c n))
    (refuse TakeRefusal.NoFrames m) (take_step order number m)

-- a refused alloc or take leaves the machine as it was, slabs included
abbrev pub RefusalsStay : Type 0
RefusalsStay = (order n : ℕ) (m : Machine)
    → OnErr (alloc_step order n m).answer ((alloc_step order n m).machine ≡ m)
    × OnErr (take_step order n m).answer ((take_step order n m).machine ≡ m)

-- each operation that can be requested keeps a machine well formed ..
abbrev pub KeepsWellFormed : Type 0
KeepsWellFormed = (limit order : ℕ) (operation : Operation) (m : Machine) → IsPossible operation
    → IsWellFormed limit order m → IsWellFormed limit order (after limit order operation m)

-- .. so any list of these operations leads from the empty machine to a well formed machine
abbrev pub RunsWellFormed : Type 0
RunsWellFormed = (limit order : ℕ) (operations : List Operation) → ArePossible operations
    → IsWellFormed limit order (run limit order operations empty_machine)

-- no two taken blocks share a frame
abbrev pub TakenApart : Type 0
TakenApart = (limit order : ℕ) (m : Machine) → IsWellFormed limit order m → AllPairs IsApart (taken_blocks m)

-- the taken blocks of a well formed machine are aligned, in held slots and apart, as the laws of blocks require
abbrev pub TakenSound : Type 0
TakenSound = (limit order : ℕ) (m : Machine) → IsWellFormed limit order m → IsSound order (holds m) (taken_in m)

-- an alloc adds its page block to the taken blocks, after slabs are freed on demand ..
abbrev pub AllocTakes : Type 0
AllocTakes = (limit order k first : ℕ) (m : Machine) → IsWellFormed limit order m → (alloc_step order k m).answer ≡ Ok first
    → (f : ℕ) → taken_in (alloc_step order k m).machine f ≡ with_taken (taken_in (by_need order k m)) first k f

-- .. a free removes its page block ..
abbrev pub FreeReleases : Type 0
FreeReleases = (limit order first k : ℕ) (m : Machine) → IsWellFormed limit order m → (free_step first m).answer ≡ Some k
    → (f : ℕ) → taken_in (free_step first m).machine f ≡ without_taken (taken_in m) first f

-- .. growth adds the block of the new slab ..
abbrev pub GrowthTakes : Type 0
GrowthTakes = (limit order first : ℕ) (c : Cache) (m : Machine) → IsWellFormed limit order m
    → Contains m.caches c → choice order m (layout c).order ≡ Some first
    → (f : ℕ) → taken_in (grown first c m) f ≡ with_taken (taken_in m) first (layout c).order f

-- .. and a reap removes the blocks of the empty slabs
abbrev pub ReapReleases : Type 0
ReapReleases = (limit order : ℕ) (m : Machine) → IsWellFormed limit order m
    → (f : ℕ) → taken_in (reaped m) f ≡ (if is_some (order_in (flat_map empty_blocks m.caches) f) then None else taken_in m f)

-- an object, live or not
pub record Object : Type 0 where
  pub cache : Cache
  pub slab : Slab
  -- its index in the slab
  pub index : ℕ

pub record IsObject (m : Machine) (object : Object) : Type 0 where
  pub cache_in : Contains m.caches object.cache
  pub slab_in : Contains object.cache.slabs object.slab
  pub index_in : object.index < (layout object.cache).count

-- the object's first place
abbrev pub place_of : Object → ℕ
place_of object = object_place (layout object.cache) object.slab.first object.slab.colour object.index

-- the byte at the place is one of the object's bytes
abbrev pub HasByte : Object → ℕ → Type 0
HasByte object place = (place_of object ≤ place) × (place < place_of object + object.cache.size)

-- two objects that share a byte are the same
abbrev pub ObjectsApart : Type 0
ObjectsApart = (limit order : ℕ) (m : Machine) → IsWellFormed limit order m → (a b : Object) → IsObject m a → IsObject m b
    → (place : ℕ) → HasByte a place → HasByte b place → a ≡ b

-- the objects of a small slab lie in its frame, below the control record
abbrev pub RecordsFree : Type 0
RecordsFree = (limit order : ℕ) (m : Machine) → IsWellFormed limit order m → (object : Object) → IsObject m object
    → is_small (layout object.cache).chunk ≡ true
    → (place : ℕ) → HasByte object place
    → (FRAME_BYTES * object.slab.first ≤ place) × (place < FRAME_BYTES * object.slab.first + RECORD_OFFSET)

-- the place that the operation returns if it is a take that succeeds, else None
abbrev pub taken_place : ℕ → Operation → Machine → Option ℕ
taken_place order (Operation.Take number) m = result_ok (take_step order number m).answer
taken_place order (Operation.Alloc k) m = None
taken_place order (Operation.Free first) m = None
taken_place order (Operation.Write place new) m = None
taken_place order (Operation.Create size align pattern) m = None
taken_place order (Operation.Give number place) m = None
taken_place order (Operation.Destroy number) m = None
taken_place order Operation.Reap m = None
taken_place order Operation.Grant m = None
taken_place order (Operation.TakeBack slot) m = None
taken_place order Operation.Reset m = None

-- The block of the new slab if a take from the cache makes one, and None otherwise. The take makes a slab if the cache has no
-- partial and no empty slab, and a block can be found. If no block is free, empty slabs are freed to find one.
abbrev pub block_of_growth : ℕ → Machine → Cache → Option Block
block_of_growth order m c =
    if is_some (slab_to_use (find is_partial c.slabs) (find is_empty c.slabs)) then None
    else option_map (λ first. block first (layout c).order) (choice_by_need order (layout c).order m)

-- the block of the slab that the operation makes, or None if it makes no slab
abbrev pub made_block : ℕ → Operation → Machine → Option Block
made_block order (Operation.Take number) m = option_and_then (block_of_growth order m) (cache_of m number)
made_block order (Operation.Alloc k) m = None
made_block order (Operation.Free first) m = None
made_block order (Operation.Write place new) m = None
made_block order (Operation.Create size align pattern) m = None
made_block order (Operation.Give number place) m = None
made_block order (Operation.Destroy number) m = None
made_block order Operation.Reap m = None
made_block order Operation.Grant m = None
made_block order (Operation.TakeBack slot) m = None
made_block order Operation.Reset m = None

-- the operation makes a slab that has the place
abbrev pub makes_slab_at : ℕ → Operation → Machine → ℕ → Bool
makes_slab_at order operation m place = option_map_or (in_block place) (made_block order operation m) false

-- the operation hands out the object that begins at the place
abbrev pub hands_out : ℕ → Operation → Machine → ℕ → Bool
hands_out order operation m place = option_map_or (λ p. p == place) (taken_place order operation m) false

-- How often the object that begins at a place has been handed out since its slab was made. It was handed out n times before the
-- operations, which begin at machine m. The count starts again from 0 when an operation makes a slab that has the place, and each
-- take that returns the place adds one.
abbrev pub hand_outs : ℕ → ℕ → ℕ → List Operation → Machine → ℕ → ℕ
hand_outs limit order place [] m n = n
hand_outs limit order place (operation ∷ operations) m n = hand_outs limit order place operations (after limit order operation m)
    ((if makes_slab_at order operation m place then 0 else n) + (if hands_out order operation m place then 1 else 0))

-- An object that has not been handed out since its slab was made reads as its cache's pattern, after any operations ..
abbrev pub ConstructedFirst : Type 0
ConstructedFirst = (limit order : ℕ) (operations : List Operation) (object : Object) (j : ℕ) → ArePossible operations
    → let m = run limit order operations empty_machine in IsObject m object → j < object.cache.size
    → hand_outs limit order (place_of object) operations empty_machine 0 ≡ 0
    → m.bytes (place_of object + j) ≡ Some (pattern_byte object.cache.pattern j)

-- .. and so does an object that a take has just handed out for the first time, even if that take makes the slab.
abbrev pub ConstructedWhenTaken : Type 0
ConstructedWhenTaken = (limit order number : ℕ) (operations : List Operation) (object : Object) (j : ℕ) → ArePossible operations
    → let step = take_step order number (run limit order operations empty_machine) in step.answer ≡ Ok (place_of object)
    → IsObject step.machine object → j < object.cache.size
    → hand_outs limit order (place_of object) (operations ++ Operation.Take number ∷ []) empty_machine 0 ≡ 1
    → step.machine.bytes (place_of object + j) ≡ Some (pattern_byte object.cache.pattern j)
