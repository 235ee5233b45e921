use Rattle.std.proofs.Common.{◌≡◌, ℕ, ◌<◌, ◌≤◌, get_or}
use Rattle.buddy_core.proofs.tenant.Tenant.least_free.Given as goal

-- the tenant has no free block of an order from `k` to `order` - 1
abbrev pub invariant-loop-order : goal.invariant-loop-order
invariant-loop-order l = (i : ℕ) → l.k ≤ i → i < l.order → get_or l.self-inside.free.items i 0 ≡ 0
