use Rattle.std.proofs.Common.{◌≡◌, sym, ◌∙◌, ap, ℕ, ◌/◌, ◌%◌, ◌^◌, List, Option, Some, None, get_or}
use Rattle.std.proofs.lemmas.List.{get_or_read}
use Rattle.buddy_core.specs.Stored.{StoredSuperblock, stored_tenant, superblock_of, superblock_at, order_under}
use Rattle.buddy_core.proofs.ContentShown.{shown_is, slot_read, bare_of}
use Rattle.buddy_core.proofs.Buddy.orders_under.Goals as goal

pub returns-clause-orders : goal.returns-clause-orders
returns-clause-orders c f in_slot =
    let a = c.self.inside in
    let s = shown_is a.order a.superblocks.items a.tenants.items c.args.t c.args.self.now c.self.view_is c.requires.tenant in
    let tenant = stored_tenant c.args.t a.tenants.items in
    let at = slot_read a.tenants.items c.args.t c.index.result.now s.listed c.index.ensures c.args.slot (Some c.unwrap-m.result) (sym c.unwrap-m.ensures ∙ c.superblock_at.ensures) in
    let m_lt = (c.self.invariant.0.each c.args.t s.listed).within _ _ at in
    let superblock = get_or_read a.superblocks.items c.unwrap-m.result c.index-2.result.now m_lt c.index-2.ensures bare_of in
    let slot : f / 2 ^ a.order ≡ c.args.slot = ap (λ n. f / 2 ^ n) (sym s.order) ∙ in_slot in
    ap (λ (xs : List (Option ℕ)). get_or xs (f % 2 ^ c.args.self.now.top) None) (c.orders.ensures.same ∙ ap (λ (x : StoredSuperblock). x.orders) superblock)
    ∙ ap (λ n. get_or (superblock_of c.unwrap-m.result a.superblocks.items).orders (f % 2 ^ n) None) s.order
    ∙ sym (ap (λ o. order_under a.superblocks.items o (f % 2 ^ a.order)) (ap (superblock_at tenant) slot ∙ at))
    ∙ sym (ap (λ (T : ℕ → Option ℕ). T f) s.taken)
