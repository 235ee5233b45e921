use Rattle.std.proofs.Common.{◌≡◌, sym, ◌∙◌, ap, subst, ◌<◌, Some, set, length}
use Rattle.std.proofs.lemmas.List.{get_or_read}
use Rattle.buddy_core.specs.Content.{holding_of, with_holding, with_slot}
use Rattle.buddy_core.specs.Stored.{StoredTenant, stored_tenant, superblock_at, holding_shown, content_shown}
use Rattle.buddy_core.specs.Kept.{IsKept}
use Rattle.buddy_core.specs.Summary.{AreExact}
use Rattle.buddy_core.proofs.ContentShown.{shown_is, slot_at, slot_read, blank_of}
use Rattle.buddy_core.proofs.SlotMoved.{move_kept, move_shown, move_exact}
use Rattle.buddy_core.proofs.Buddy.move_slot.Goals as goal
use Rattle.buddy_core.proofs.Buddy.move_slot.Goals.{After-swap}

-- after the call the invariant holds, and contracts see superblock m in the slot
moved : (c : After-swap) → (IsKept c.self.inside.order c.swap.new.self.items (set c.self.inside.tenants.items c.args.t c.move_slot.new.self) × AreExact c.swap.new.self.items (set c.self.inside.tenants.items c.args.t c.move_slot.new.self) c.self.inside.summaries.items)
    × (content_shown c.self.inside.order c.swap.new.self.items (set c.self.inside.tenants.items c.args.t c.move_slot.new.self) ≡ with_holding c.args.t (with_slot c.args.slot c.args.m (holding_of c.args.t c.args.self.now)) c.args.self.now)
moved c =
    let a = c.self.inside in
    let s = shown_is a.order a.superblocks.items a.tenants.items c.args.t c.args.self.now c.self.view_is c.requires.tenant in
    let at = slot_at a.order a.superblocks.items a.tenants.items c.args.self.now c.self.view_is in
    let m_lt : c.args.m < length a.superblocks.items = subst (λ n. c.args.m < n) s.count c.requires.superblock in
    let tenant = get_or_read a.tenants.items c.args.t c.index_mut-tenant.result.now s.listed c.index_mut-tenant.ensures.value blank_of in
    let here = ap (superblock_at (stored_tenant c.args.t a.tenants.items)) (sym c.from.ensures)
    ∙ slot_read a.tenants.items c.args.t c.index_mut-tenant.result.now s.listed c.index_mut-tenant.ensures.value c.from.result (Some c.unwrap-old.result) (sym c.unwrap-old.ensures ∙ c.superblock_at.ensures) in
    let written = c.move_slot.ensures ∙ ap (λ (r : StoredTenant). record r { slots = set r.slots c.args.slot (Some c.args.m) }) tenant in (
      subst (λ (r : StoredTenant). IsKept a.order c.swap.new.self.items (set a.tenants.items c.args.t r) × AreExact c.swap.new.self.items (set a.tenants.items c.args.t r) a.summaries.items) (sym written) (
        move_kept a.order a.superblocks.items a.tenants.items c.self.invariant.0 c.args.t s.listed c.args.slot c.unwrap-old.result c.args.m here m_lt
            (λ v w there. c.requires.unused v w (at v w ∙ there)) c.swap.new.self.items c.swap.ensures.by_index,
        move_exact a.order a.superblocks.items a.tenants.items c.self.invariant.0 c.args.t s.listed c.args.slot c.unwrap-old.result c.args.m here m_lt
            (λ v w there. c.requires.unused v w (at v w ∙ there)) c.swap.new.self.items c.swap.ensures.by_index a.summaries.items c.self.invariant.1,
      ),
      ap (λ (r : StoredTenant). content_shown a.order c.swap.new.self.items (set a.tenants.items c.args.t r)) written
          ∙ move_shown a.order a.superblocks.items a.tenants.items c.self.invariant.0 c.args.t s.listed c.args.slot c.unwrap-old.result c.args.m here m_lt
          (λ v w there. c.requires.unused v w (at v w ∙ there)) c.swap.new.self.items c.swap.ensures.by_index
          ∙ ap (λ y. with_holding c.args.t (with_slot c.args.slot c.args.m (holding_shown a.order a.superblocks.items (stored_tenant c.args.t a.tenants.items))) y) c.self.view_is
          ∙ ap (λ g. with_holding c.args.t (with_slot c.args.slot c.args.m g) c.args.self.now) (sym s.holding),
    )

pub invariant_of-self : goal.invariant_of-self
invariant_of-self c = (moved (goal.at.invariant_of-self c).After-swap).0

pub returns : goal.returns
returns c = (moved (goal.at.returns c).After-swap).1
