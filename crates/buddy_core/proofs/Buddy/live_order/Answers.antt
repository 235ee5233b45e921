use Rattle.std.proofs.Common.{◌≡◌, sym, ◌∙◌, ap, ℕ, ◌*◌, ◌/◌, ◌%◌, ◌^◌, List, get_or, Some, None, Option, arith}
use Rattle.std.proofs.lemmas.List.{get_or_read}
use Rattle.std.proofs.lemmas.Nat.{pow_pos, mod_below}
use Rattle.buddy_core.specs.Stored.{StoredSuperblock, StoredTenant, superblock_of, stored_tenant, superblock_at, taken_by, order_under}
use Rattle.buddy_core.proofs.ContentShown.{shown_is, slot_read, size_is, bare_of}
use Rattle.buddy_core.proofs.Buddy.live_order.Goals as goal

-- the entry of the taken blocks at frame f is stored in the superblock of the frame's slot, at the frame's offset in the slot
by_slot : (top : ℕ) (superblocks : List StoredSuperblock) (tenant : StoredTenant) (f : ℕ) (o : Option ℕ) → superblock_at tenant (f / 2 ^ top) ≡ o → taken_by top superblocks tenant f ≡ order_under superblocks o (f % 2 ^ top)
by_slot top superblocks tenant f o e = ap (λ o. order_under superblocks o (f % 2 ^ top)) e

pub returns-in_err-m : goal.returns-in_err-m
returns-in_err-m c =
    let a = c.self.inside in
    let s = shown_is a.order a.superblocks.items a.tenants.items c.args.t c.args.self.now c.self.view_is c.requires in
    let at = slot_read a.tenants.items c.args.t c.index.result.now s.listed c.index.ensures (c.args.frame / 2 ^ a.order) None c.in_err-m.ensures in
    c.from_residual.ensures ∙ sym (by_slot a.order a.superblocks.items (stored_tenant c.args.t a.tenants.items) c.args.frame None at) ∙ sym (ap (λ (T : ℕ → Option ℕ). T c.args.frame) s.taken)

pub index-requires-2 : goal.index-requires-2
index-requires-2 c =
    let a = c.self.inside in
    let s = shown_is a.order a.superblocks.items a.tenants.items c.args.t c.args.self.now c.self.view_is c.requires in
    let at = slot_read a.tenants.items c.args.t c.index.result.now s.listed c.index.ensures (c.args.frame / 2 ^ a.order) (Some c.in_ok-m.m) c.in_ok-m.ensures in
    omega (arith, a.superblocks.ok.0, (c.self.invariant.0.each c.args.t s.listed).within _ _ at)

pub order_at-requires : goal.order_at-requires
order_at-requires c =
    let a = c.self.inside in
    let s = shown_is a.order a.superblocks.items a.tenants.items c.args.t c.args.self.now c.self.view_is c.requires in
    let at = slot_read a.tenants.items c.args.t c.index.result.now s.listed c.index.ensures (c.args.frame / 2 ^ a.order) (Some c.in_ok-m.m) c.in_ok-m.ensures in
    let m_lt = (c.self.invariant.0.each c.args.t s.listed).within _ _ at in
    let superblock = get_or_read a.superblocks.items c.in_ok-m.m c.index-2.result.now m_lt c.index-2.ensures bare_of in
    let order = ap (λ (x : StoredSuperblock). 2 ^ x.tree.order) superblock ∙ ap (λ n. 2 ^ n) (c.self.invariant.0.order c.in_ok-m.m m_lt) in
    omega (arith, order, size_is a.order c.self.invariant.0.small, mod_below c.args.frame (2 ^ a.order) (pow_pos a.order))

pub returns : goal.returns
returns c =
    let a = c.self.inside in
    let s = shown_is a.order a.superblocks.items a.tenants.items c.args.t c.args.self.now c.self.view_is c.requires in
    let at = slot_read a.tenants.items c.args.t c.index.result.now s.listed c.index.ensures (c.args.frame / 2 ^ a.order) (Some c.in_ok-m.m) c.in_ok-m.ensures in
    let m_lt = (c.self.invariant.0.each c.args.t s.listed).within _ _ at in
    let superblock = get_or_read a.superblocks.items c.in_ok-m.m c.index-2.result.now m_lt c.index-2.ensures bare_of in
    c.order_at.ensures
    ∙ ap (λ (x : StoredSuperblock). get_or x.orders (c.args.frame % (1 * 2 ^ a.order % 4294967296)) None) superblock
    ∙ ap (λ n. get_or (superblock_of c.in_ok-m.m a.superblocks.items).orders (c.args.frame % n) None) (size_is a.order c.self.invariant.0.small)
    ∙ sym (by_slot a.order a.superblocks.items (stored_tenant c.args.t a.tenants.items) c.args.frame (Some c.in_ok-m.m) at)
    ∙ sym (ap (λ (T : ℕ → Option ℕ). T c.args.frame) s.taken)
