-- A machine with few taken frames has space for a block, wherever its taken blocks lie.
use Rattle.std.specs.Prelude.{◌≡◌, ℕ, ◌-◌, ◌*◌, ◌^◌, ◌<◌, ◌≤◌, length, Some, Ok}
use Rattle.model_core.specs.Machine.{Cache, Machine, layout}
use Rattle.model_core.specs.Slabs.{cache_of, reaped, choice_by_need}
use Rattle.model_core.specs.Operations.{alloc_step}
use Rattle.model_core.specs.CacheOperations.{take_step}
use Rattle.model_core.specs.Reports.{frames_taken}
use Rattle.model_core.specs.WellFormed.{IsWellFormed}

-- The machine is ample for order k: the number of taken frames, not counting those of empty slabs, is less than the number of
-- aligned blocks of order k in the held slots. Slots have 2 ^ order frames.
pub record IsAmple (order k : ℕ) (m : Machine) : Type 0 where
  pub of_slot : k ≤ order
  pub fewer : frames_taken (reaped m) < length m.slots * 2 ^ (order - k)

-- a well formed machine that is ample for order k has a block of this order for a request, if empty slabs are freed on demand ..
abbrev pub BlockIsPromised : Type 0
BlockIsPromised = (limit order k : ℕ) (m : Machine) → IsWellFormed limit order m → IsAmple order k m
    → (first : ℕ) × (choice_by_need order k m ≡ Some first)

-- .. so an alloc of this order is not refused ..
abbrev pub AllocIsPromised : Type 0
AllocIsPromised = (limit order k : ℕ) (m : Machine) → IsWellFormed limit order m → IsAmple order k m
    → (first : ℕ) × ((alloc_step order k m).answer ≡ Ok first)

-- .. and neither is a take from a cache whose slabs have this order
abbrev pub TakeIsPromised : Type 0
TakeIsPromised = (limit order number : ℕ) (m : Machine) (c : Cache) → IsWellFormed limit order m → cache_of m number ≡ Some c
    → IsAmple order (layout c).order m → (place : ℕ) × ((take_step order number m).answer ≡ Ok place)
