use Rattle.std.proofs.Common.{◌≡◌, ◌⊎◌, ℕ, ◌+◌, ◌<◌, ◌≤◌, length, get_or}
use Rattle.buddy_core.proofs.tenant.Tenant.count_reserved.Given as goal

-- Since the loop began, the count of free blocks of each order from `order` to `level` - 1 has increased by 1, and nothing else
-- has changed.
abbrev pub invariant-loop-level : goal.invariant-loop-level
invariant-loop-level l =
    (length l.self-inside.free.items ≡ length l.initial.self-inside.free.items)
    × ((i : ℕ) → l.order ≤ i → i < l.level → get_or l.self-inside.free.items i 0 ≡ get_or l.initial.self-inside.free.items i 0 + 1)
    × ((i : ℕ) → (i < l.order) ⊎ (l.level ≤ i) → get_or l.self-inside.free.items i 0 ≡ get_or l.initial.self-inside.free.items i 0)
    × (l.self-inside.slots.items ≡ l.initial.self-inside.slots.items)
    × (l.self-inside.taken.items ≡ l.initial.self-inside.taken.items)
    × (l.self-inside.end ≡ l.initial.self-inside.end)
    × (l.self-inside.held_slots ≡ l.initial.self-inside.held_slots)
