use Rattle.std.proofs.Common.{◌≡◌, sym, ◌∙◌, ap, ap₂, subst, ◌+◌, Bool, false, List, replicate, arith}
use Rattle.buddy_core.specs.Stored.{StoredSuperblock, StoredTenant, bare_superblock, bare_tenant, content_shown}
use Rattle.buddy_core.specs.Summary.{AreExact}
use Rattle.buddy_core.specs.Kept.{IsKept}
use Rattle.buddy_core.proofs.NothingHeld.{opening_kept, opening_shown}
use Rattle.buddy_core.proofs.ExactSummaries.{exact_first}
use Rattle.buddy_core.proofs.Buddy.new.Goals as goal

pub invariant_of-result : goal.invariant_of-result
invariant_of-result c =
    let tenants : c.loop-tenant._tenant ≡ c.args.tenants = omega arith in
    let superblocks : c.loop-superblock._superblock ≡ c.args.superblocks = omega arith in
    let all_tenants = c.loop-tenant.invariant.0 ∙ ap (λ n. replicate n (bare_tenant c.args.order c.args.superblocks)) tenants in
    let all_superblocks = c.loop-superblock.invariant ∙ ap (λ n. replicate n (bare_superblock c.args.order)) superblocks in
    let summaries = c.loop-tenant.invariant.1 ∙ ap (λ n. replicate n (replicate (c.args.order + 1) (replicate c.args.superblocks false))) tenants in (
      subst (λ (xs : List StoredSuperblock). IsKept c.args.order xs c.loop-tenant.all_tenants.items) (sym all_superblocks)
          (subst (λ (xs : List StoredTenant). IsKept c.args.order (replicate c.args.superblocks (bare_superblock c.args.order)) xs) (sym all_tenants)
          (opening_kept c.args.order c.args.superblocks c.args.tenants c.requires.order c.requires.superblocks c.requires.tenants c.requires.frames)),
      subst (λ (bs : List (List (List Bool))). AreExact c.loop-superblock.all_superblocks.items c.loop-tenant.all_tenants.items bs) (sym summaries)
          (subst (λ (xs : List StoredTenant). AreExact c.loop-superblock.all_superblocks.items xs (replicate c.args.tenants (replicate (c.args.order + 1) (replicate c.args.superblocks false)))) (sym all_tenants)
          (exact_first c.loop-superblock.all_superblocks.items c.args.order c.args.superblocks c.args.tenants)),
    )

pub returns : goal.returns
returns c =
    let tenants : c.loop-tenant._tenant ≡ c.args.tenants = omega arith in
    let superblocks : c.loop-superblock._superblock ≡ c.args.superblocks = omega arith in
    let all_tenants = c.loop-tenant.invariant.0 ∙ ap (λ n. replicate n (bare_tenant c.args.order c.args.superblocks)) tenants in
    let all_superblocks = c.loop-superblock.invariant ∙ ap (λ n. replicate n (bare_superblock c.args.order)) superblocks in
    ap₂ (λ (xs : List StoredSuperblock) (ys : List StoredTenant). content_shown c.args.order xs ys) all_superblocks all_tenants ∙ opening_shown c.args.order c.args.superblocks c.args.tenants
