-- What the worked examples compare: a number for each operation that succeeds, and None for each operation that is refused.
use Rattle.std.specs.Prelude.{ℕ, List, [], ◌∷◌, length, Option, Some}
use Rattle.std.specs.Result.{result_ok}
use Rattle.model_core.specs.declared.limits.TheConstants.{MAX_CACHES}
use Rattle.model_core.specs.Machine.{Machine, empty_machine}
use Rattle.model_core.specs.Operations.{alloc_step, free_step, write_step, next_slot, take_back_step}
use Rattle.model_core.specs.CacheOperations.{cache_step, take_step, give_step, destroy_step, reap_step}
use Rattle.model_core.specs.Runs.{Operation, Alloc, Free, Write, Create, Take, Give, Destroy, Reap, Grant, TakeBack, Reset, after, run}
use Rattle.std.specs.Option.{option_map}

unfoldable pub number_of : Operation → Machine → Option ℕ
number_of (Alloc k) m = result_ok (alloc_step 3 k m).answer
number_of (Free first) m = (free_step first m).answer
number_of (Write place new) m = (write_step place new m).answer
number_of (Create size align pattern) m = result_ok (cache_step MAX_CACHES size align pattern m).answer
number_of (Take number) m = result_ok (take_step 3 number m).answer
number_of (Give number place) m = option_map (λ _. place) (result_ok (give_step number place m).answer)
number_of (Destroy number) m = result_ok (destroy_step number m).answer
number_of Reap m = Some (reap_step m).answer
number_of Grant m = Some (next_slot m)
number_of (TakeBack slot) m = option_map (λ _. slot) (result_ok (take_back_step 3 slot m).answer)
number_of Reset m = Some (length m.slots)

abbrev pub numbers_from : Machine → List Operation → List (Option ℕ)
numbers_from m [] = []
numbers_from m (operation ∷ operations) = number_of operation m ∷ numbers_from (after MAX_CACHES 3 operation m) operations

-- the numbers for these operations, run in order on the empty machine; slots have order 3
abbrev pub numbers : List Operation → List (Option ℕ)
numbers operations = numbers_from empty_machine operations

abbrev pub machine_after : List Operation → Machine
machine_after operations = run MAX_CACHES 3 operations empty_machine
