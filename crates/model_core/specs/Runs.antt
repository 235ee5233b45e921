-- The operations on a machine, and the machine after a list of operations.
use Rattle.std.specs.Prelude.{◌≡◌, ℕ, true, List, [], ◌∷◌, ⊤}
use Rattle.std.specs.List.{AllByRecursion}
use Rattle.model_core.specs.Layouts.{is_pattern}
use Rattle.model_core.specs.Machine.{Machine, empty_machine}
use Rattle.model_core.specs.Operations.{alloc_step, free_step, write_step, after_grant, take_back_step}
use Rattle.model_core.specs.CacheOperations.{cache_step, take_step, give_step, destroy_step, reap_step}

-- the operations that can change a machine
pub data Operation : Type 0 where
  -- allocates a page block of this order
  Alloc : ℕ → Operation
  -- frees the page block at this frame
  Free : ℕ → Operation
  -- writes bytes, beginning at a place
  Write : ℕ → List ℕ → Operation
  -- makes a cache with this size, alignment and pattern
  Create : ℕ → ℕ → List ℕ → Operation
  -- takes an object of this cache
  Take : ℕ → Operation
  -- gives back the object of this cache that begins at this place
  Give : ℕ → ℕ → Operation
  -- destroys this cache
  Destroy : ℕ → Operation
  -- frees all empty slabs
  Reap : Operation
  -- grants a slot
  Grant : Operation
  -- takes back this slot
  TakeBack : ℕ → Operation
  -- changes the machine to the empty machine
  Reset : Operation

-- the operation can be requested: if it makes a cache, the pattern is allowed
abbrev pub IsPossible : Operation → Type 0
IsPossible (Create size align pattern) = is_pattern pattern ≡ true
IsPossible (Alloc k) = ⊤
IsPossible (Free first) = ⊤
IsPossible (Write place new) = ⊤
IsPossible (Take number) = ⊤
IsPossible (Give number place) = ⊤
IsPossible (Destroy number) = ⊤
IsPossible Reap = ⊤
IsPossible Grant = ⊤
IsPossible (TakeBack slot) = ⊤
IsPossible Reset = ⊤

-- each of the operations can be requested
abbrev pub ArePossible : List Operation → Type 0
ArePossible operations = AllByRecursion IsPossible operations

-- The machine after an operation. `limit` is the largest number of caches; slots have 2 ^ order frames.
abbrev pub after : ℕ → ℕ → Operation → Machine → Machine
after limit order (Alloc k) m = (alloc_step order k m).machine
after limit order (Free first) m = (free_step first m).machine
after limit order (Write place new) m = (write_step place new m).machine
after limit order (Create size align pattern) m = (cache_step limit size align pattern m).machine
after limit order (Take number) m = (take_step order number m).machine
after limit order (Give number place) m = (give_step number place m).machine
after limit order (Destroy number) m = (destroy_step number m).machine
after limit order Reap m = (reap_step m).machine
after limit order Grant m = after_grant order m
after limit order (TakeBack slot) m = (take_back_step order slot m).machine
after limit order Reset m = empty_machine

-- the machine after a list of operations
abbrev pub run : ℕ → ℕ → List Operation → Machine → Machine
run limit order [] m = m
run limit order (operation ∷ operations) m = run limit order operations (after limit order operation m)
