-- The laws of bytes: what changes the byte at a place, and what does not.
use Rattle.std.specs.Prelude.{◌≡◌, ℕ, ◌+◌, Bool, true, false, List, [], ◌∷◌, length, Some, None, nat_le, nat_lt, ◌&&◌, ⊤}
use Rattle.model_core.specs.Machine.{Machine, holds, slot_of, choice}
use Rattle.model_core.specs.Reach.{in_reach}
use Rattle.model_core.specs.Operations.{alloc_step, free_step}
use Rattle.model_core.specs.CacheOperations.{take_step, give_step}
use Rattle.model_core.specs.Runs.{Operation, ArePossible, after, run}
use Rattle.model_core.specs.WellFormed.{in_slab, IsWellFormed}
use Rattle.model_core.specs.Laws.{made_block, makes_slab_at}

-- no byte changes if a page block is allocated without freeing slabs ..
abbrev pub AllocKeeps : Type 0
AllocKeeps = (order k first : ℕ) (m : Machine) → choice order m k ≡ Some first → (alloc_step order k m).machine.bytes ≡ m.bytes

-- .. if a page block is freed ..
abbrev pub FreeKeeps : Type 0
FreeKeeps = (first : ℕ) (m : Machine) → (free_step first m).machine.bytes ≡ m.bytes

-- .. if a take makes no slab ..
abbrev pub TakeKeeps : Type 0
TakeKeeps = (order number : ℕ) (m : Machine) → made_block order (Operation.Take number) m ≡ None
    → (take_step order number m).machine.bytes ≡ m.bytes

-- .. or if an object is given back
abbrev pub GiveKeeps : Type 0
GiveKeeps = (number place : ℕ) (m : Machine) → (give_step number place m).machine.bytes ≡ m.bytes

-- the operation writes this place
abbrev pub writes : Operation → ℕ → Bool
writes (Operation.Write begin new) place = nat_le begin place && nat_lt place (begin + length new)
writes (Operation.Alloc k) place = false
writes (Operation.Free first) place = false
writes (Operation.Create size align pattern) place = false
writes (Operation.Take number) place = false
writes (Operation.Give number object) place = false
writes (Operation.Destroy number) place = false
writes Operation.Reap place = false
writes Operation.Grant place = false
writes (Operation.TakeBack slot) place = false
writes Operation.Reset place = false

-- The operation leaves the place alone: it does not write the place, makes or frees no slab that has the place, and does not
-- grant or take away the slot of the place.
pub record IsLeftAlone (limit order : ℕ) (operation : Operation) (m : Machine) (place : ℕ) : Type 0 where
  pub unwritten : writes operation place ≡ false
  pub unmade : makes_slab_at order operation m place ≡ false
  pub same_slab : in_slab (after limit order operation m) place ≡ in_slab m place
  pub same_slot : holds (after limit order operation m) (slot_of order place) ≡ holds m (slot_of order place)

-- if an operation leaves a place alone, the place keeps its byte, whether or not it is in reach
abbrev pub BytesStay : Type 0
BytesStay = (limit order : ℕ) (operation : Operation) (m : Machine) (place : ℕ) → IsWellFormed limit order m
    → IsLeftAlone limit order operation m place → (after limit order operation m).bytes place ≡ m.bytes place

-- if the operations of the list run one after another, beginning at machine m, each leaves the place alone
abbrev pub AllLeaveAlone : ℕ → ℕ → List Operation → Machine → ℕ → Type 0
AllLeaveAlone limit order [] m place = ⊤
AllLeaveAlone limit order (operation ∷ operations) m place =
    IsLeftAlone limit order operation m place × AllLeaveAlone limit order operations (after limit order operation m) place

-- If every operation of a run leaves a place alone, the place keeps its byte. So an object that is left alone has the same bytes
-- when it is handed out again as when it was given back. A page block has the same bytes when it is allocated again as when it
-- was freed.
abbrev pub RunsKeepBytes : Type 0
RunsKeepBytes = (limit order : ℕ) (operations : List Operation) (m : Machine) (place : ℕ) → ArePossible operations
    → IsWellFormed limit order m → AllLeaveAlone limit order operations m place
    → (run limit order operations m).bytes place ≡ m.bytes place

-- a byte that is in reach before and after an operation, in a page block or in a live object, changes only if the operation
-- writes it
abbrev pub WritesAlone : Type 0
WritesAlone = (limit order : ℕ) (operation : Operation) (m : Machine) (place : ℕ) → IsWellFormed limit order m
    → in_reach m place 1 ≡ true → in_reach (after limit order operation m) place 1 ≡ true → writes operation place ≡ false
    → (after limit order operation m).bytes place ≡ m.bytes place

-- if an operation frees the slab of a place and the slot of the place is held afterwards, the place reads as zero
abbrev pub SlabsLeaveZeroes : Type 0
SlabsLeaveZeroes = (limit order : ℕ) (operation : Operation) (m : Machine) (place : ℕ) → IsWellFormed limit order m
    → in_slab m place ≡ true → in_slab (after limit order operation m) place ≡ false
    → holds (after limit order operation m) (slot_of order place) ≡ true
    → (after limit order operation m).bytes place ≡ Some 0
