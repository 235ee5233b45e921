use Rattle.std.proofs.Common.{◌≡◌, ◌/◌, ◌^◌, Some, sym, ap, ◌∙◌, subst, arith}
use Rattle.std.specs.Prelude.{IsSome}
use Rattle.space_core.specs.Content.{superblock_at}
use Rattle.slab_tables.specs.Content.{cache_at}
use Rattle.kernel_core.specs.Content as content
use Rattle.kernel_core.specs.Content.{KernelContent}
use Rattle.kernel_core.proofs.CallEffects.{steady, opened, known}
use Rattle.kernel_core.proofs.PageCalls.{block_slot}
use Rattle.kernel_core.proofs.Releases.{slab_cached}
use Rattle.kernel_core.proofs.kernel.Kernel.cache_around.Goals as goal

pub list_in-requires-clause-held : goal.list_in-requires-clause-held
list_in-requires-clause-held c =
    let k = c.self.inside in
    let t = c.args.t in
    let st = steady k.space k.buddy k.slabs t (opened _ _ _ _ c.self.view_is c.laws.ensures.together) (known _ _ _ _ t c.self.view_is c.requires) in
    let same = block_slot k.space k.buddy k.slabs t c.in_ok-first.first c.in_ok-first.field-0-1 (c.args.place / 4096) st c.in_ok-first.ensures.0 c.in_ok-first.ensures.1 in
    let top = sym c.self.invariant.order ∙ (ap (λ (x : KernelContent). x.order) c.self.view_is ∙ sym c.order.ensures) in
    let read = ap (λ n. superblock_at k.space.slots t (c.args.place / 4096 / 2 ^ n)) top ∙ sym c.machine_of.ensures.value in
    subst (λ (x : KernelContent). content.superblock_at x t (c.in_ok-first.first / 2 ^ x.order) ≡ Some c.in_ok-superblock.superblock) c.self.view_is
    (ap (λ n. superblock_at k.space.slots t (c.in_ok-first.first / 2 ^ n)) c.self.invariant.order
    ∙ (ap (superblock_at k.space.slots t) same ∙ (read ∙ c.in_ok-superblock.was)))

pub returns : goal.returns
returns c =
    let k = c.args.self.now in
    let t = c.args.t in
    let list = c.in_ok-list.ensures in
    let st = steady k.space k.buddy k.slabs t c.laws.ensures.together (omega (arith, c.requires, c.laws.ensures.agree.holdings)) in
    subst (λ n. IsSome (cache_at k.slabs t n)) (sym c.cache.ensures)
    (slab_cached k.space k.buddy k.slabs t c.in_ok-first.first c.in_ok-list.list.number list.0 list.1 st list.2 list.3)
