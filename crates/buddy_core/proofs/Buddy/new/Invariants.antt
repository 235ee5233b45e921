use Rattle.std.proofs.Common.{◌≡◌, ◌+◌, false, replicate}
use Rattle.buddy_core.specs.Stored.{bare_superblock, bare_tenant}
use Rattle.buddy_core.proofs.Buddy.new.Given as goal

abbrev pub invariant-loop-tenant : goal.invariant-loop-tenant
invariant-loop-tenant l =
    (l.all_tenants.items ≡ replicate l._tenant (bare_tenant l.order l.superblocks)) × (l.summaries.items ≡ replicate l._tenant (replicate (l.order + 1) (replicate l.superblocks false)))

abbrev pub invariant-loop-superblock : goal.invariant-loop-superblock
invariant-loop-superblock l = l.all_superblocks.items ≡ replicate l._superblock (bare_superblock l.order)
