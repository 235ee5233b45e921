-- The slots that cannot be busy.
use Rattle.std.specs.Prelude.{ℕ, ◌||◌, if◌then◌else◌, Option, Some, None}
use Rattle.std.specs.List.{list_any}
use Rattle.promise_core.specs.Holdings.{has_slot, is_slot_busy}
use Rattle.promise_core.specs.State.{State}

-- the slot, if it is held, no frame of it is taken, and no cache may have an empty slab; slots have 2 ^ order frames
unfoldable pub idle_slot : ℕ → State → ℕ → Option ℕ
idle_slot order s u = if has_slot s.has u
    then (if is_slot_busy order s.has u || list_any (λ c. s.may_have_empty c.number) s.has.caches then None else Some u)
    else None
