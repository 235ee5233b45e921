use Rattle.std.proofs.Common.{◌≡◌, ℕ, ◌<◌, ◌≤◌, None, length, get_or}
use Rattle.buddy_core.proofs.tenant.Tenant.clear.Given as goal

-- the slots below `slot` are empty, and nothing else has changed
abbrev pub invariant-loop-slot : goal.invariant-loop-slot
invariant-loop-slot l =
    (length l.self-inside.slots.items ≡ length l.initial.self-inside.slots.items)
    × ((u : ℕ) → u < l.slot → get_or l.self-inside.slots.items u None ≡ None)
    × ((u : ℕ) → l.slot ≤ u → get_or l.self-inside.slots.items u None ≡ get_or l.initial.self-inside.slots.items u None)
    × (l.self-inside.end ≡ l.initial.self-inside.end)
    × (l.self-inside.free.items ≡ l.initial.self-inside.free.items)
    × (l.self-inside.taken.items ≡ l.initial.self-inside.taken.items)
