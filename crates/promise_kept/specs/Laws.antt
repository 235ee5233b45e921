-- The private machine's reply to each command keeps the promises. Each law is about a well-formed machine and a known state that
-- is true of it. Each law is the contract of a function of `laws` or `object_laws`.
use Rattle.std.specs.Prelude.{ℕ, ◌≤◌}
use Rattle.arrayvec.specs.ArrayVec.{ArrayVec}
use Rattle.model_core.specs.Machine.{Machine}
use Rattle.model_core.specs.WellFormed.{IsWellFormed}
use Rattle.words_core.specs.declared.event.Command.TheVariants as Command
use Rattle.promise_core.specs.State.{State}
use Rattle.promise_kept.specs.Meets.{Meets, IsPromiseKept}

-- the reply to an `alloc` keeps the promises
abbrev pub AllocIsKept : Type 0
AllocIsKept = (limit order k : ℕ) (m : Machine) (s : State) → IsWellFormed limit order m → Meets order s m
    → IsPromiseKept limit order (Command.Alloc k) m s

-- the reply to a `free` keeps the promises
abbrev pub FreeIsKept : Type 0
FreeIsKept = (limit order first : ℕ) (m : Machine) (s : State) → IsWellFormed limit order m → Meets order s m
    → IsPromiseKept limit order (Command.Free first) m s

-- the reply to a `write` keeps the promises
abbrev pub WriteIsKept : Type 0
WriteIsKept = (limit order place : ℕ) (new : ArrayVec ℕ) (m : Machine) (s : State) → IsWellFormed limit order m → Meets order s m
    → IsPromiseKept limit order (Command.Write place new) m s

-- the reply to a `read` keeps the promises
abbrev pub ReadIsKept : Type 0
ReadIsKept = (limit order place len : ℕ) (m : Machine) (s : State) → IsWellFormed limit order m → Meets order s m
    → IsPromiseKept limit order (Command.Read place len) m s

-- the reply to a command for a new cache keeps the promises if a slot is at least as large as the largest slab
abbrev pub CacheIsKept : Type 0
CacheIsKept = (limit order size align : ℕ) (pattern : ArrayVec ℕ) (m : Machine) (s : State) → IsWellFormed limit order m → Meets order s m → 3 ≤ order
    → IsPromiseKept limit order (Command.Cache size align pattern) m s

-- the reply to a `report` keeps the promises
abbrev pub ReportIsKept : Type 0
ReportIsKept = (limit order : ℕ) (m : Machine) (s : State) → IsWellFormed limit order m → Meets order s m
    → IsPromiseKept limit order Command.Report m s

-- the reply to a `take` keeps the promises if a slot is at least as large as the largest slab
abbrev pub TakeIsKept : Type 0
TakeIsKept = (limit order number : ℕ) (m : Machine) (s : State) → IsWellFormed limit order m → Meets order s m → 3 ≤ order
    → IsPromiseKept limit order (Command.Take number) m s

-- the reply to a `give` keeps the promises
abbrev pub GiveIsKept : Type 0
GiveIsKept = (limit order number place : ℕ) (m : Machine) (s : State) → IsWellFormed limit order m → Meets order s m
    → IsPromiseKept limit order (Command.Give number place) m s

-- the reply to a `destroy` keeps the promises
abbrev pub DestroyIsKept : Type 0
DestroyIsKept = (limit order number : ℕ) (m : Machine) (s : State) → IsWellFormed limit order m → Meets order s m
    → IsPromiseKept limit order (Command.Destroy number) m s

-- the reply to a `reap` keeps the promises
abbrev pub ReapIsKept : Type 0
ReapIsKept = (limit order : ℕ) (m : Machine) (s : State) → IsWellFormed limit order m → Meets order s m
    → IsPromiseKept limit order Command.Reap m s
