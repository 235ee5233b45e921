use Rattle.std.proofs.Common.{◌≡◌}
use Rattle.buddy_core.specs.Stored.{stored_tenant}
use Rattle.buddy_core.specs.Summary.{AreExact}
use Rattle.buddy_core.proofs.TenantReset.{Cleared}
use Rattle.buddy_core.proofs.Buddy.reset.Given as goal

abbrev pub invariant-loop-slot : goal.invariant-loop-slot
invariant-loop-slot l =
    Cleared l.initial.self-inside.order l.initial.self-inside.superblocks.items l.self-inside.superblocks.items (stored_tenant l.t l.initial.self-inside.tenants.items) l.slot
    × (l.self-inside.tenants.items ≡ l.initial.self-inside.tenants.items)
    × (l.self-inside.order ≡ l.initial.self-inside.order)
    × AreExact l.self-inside.superblocks.items l.initial.self-inside.tenants.items l.self-inside.summaries.items
