use Rattle.std.proofs.Common.{◌≡◌, refl, sym, ◌∙◌, ap, subst, true, ℕ, ◌+◌, ◌*◌, ◌%◌, ◌^◌, ◌<◌, ◌≤◌, Bool, List, Some, get_or, set, length, arith}
use Rattle.std.specs.Int.{bit_at}
use Rattle.std.specs.Prelude.{slice_index}
use Rattle.model_core.specs.declared.limits.TheConstants.{WIDE_ORDER}
use Rattle.std.proofs.lemmas.Nat.{one_shl}
use Rattle.std.proofs.lemmas.List.{get_or_read}
use Rattle.buddy_core.specs.Content.{holding_of, with_holding, with_slot}
use Rattle.buddy_core.specs.Stored.{StoredSuperblock, StoredTenant, bare_superblock, stored_tenant, holding_shown, content_shown}
use Rattle.buddy_core.specs.Tree.{Shows}
use Rattle.buddy_core.specs.Summary.{summary_of, AreExact}
use Rattle.buddy_core.specs.Kept.{IsKept}
use Rattle.buddy_core.proofs.ContentShown.{shown_is, slot_at, blank_of, bare_of}
use Rattle.buddy_core.proofs.TenantCounts.{room}
use Rattle.buddy_core.proofs.TenantChanged.{kept_changed, shown_changed}
use Rattle.buddy_core.proofs.SlotAdded.{grant_change, grant_holding, grant_noted}
use Rattle.buddy_core.proofs.ExactSummaries.{IsNoted, summary_read, summary_size, slot_in, exact_noted}
use Rattle.buddy_core.proofs.SummaryNoted.{none_before}
use Rattle.buddy_core.proofs.TreeOrders.{orders_clear, bit_apart}
use Rattle.buddy_core.proofs.TreeSearch.{first_word}
use Rattle.model_core.proofs.BlockHalves.{clear_from}
use Rattle.buddy_core.proofs.Buddy.add_slot.Goals as goal
use Rattle.buddy_core.proofs.Buddy.add_slot.Goals.{After-fill_bare, After-add_slot}

pub fill_bare-requires : goal.fill_bare-requires
fill_bare-requires c =
    let a = c.self.inside in
    let s = shown_is a.order a.superblocks.items a.tenants.items c.args.t c.args.self.now c.self.view_is c.requires.tenant in
    let at = slot_at a.order a.superblocks.items a.tenants.items c.args.self.now c.self.view_is in
    let m_lt : c.args.m < length a.superblocks.items = subst (λ n. c.args.m < n) s.count c.requires.superblock in
    let superblock = get_or_read a.superblocks.items c.args.m c.index_mut.result.now m_lt c.index_mut.ensures.value bare_of in
    let bare = superblock ∙ c.self.invariant.0.bare c.args.m m_lt (λ v w there. c.requires.unused v w (at v w ∙ there)) in
    bare ∙ ap (λ (z : StoredSuperblock). bare_superblock z.tree.order) (sym bare)

pub add_slot-requires-clause-room : goal.add_slot-requires-clause-room
add_slot-requires-clause-room c =
    let a = c.self.inside in
    let s = shown_is a.order a.superblocks.items a.tenants.items c.args.t c.args.self.now c.self.view_is c.requires.tenant in
    let tenant = get_or_read a.tenants.items c.args.t c.index_mut-3.result.now s.listed c.index_mut-3.ensures.value blank_of in
    subst (λ (r : StoredTenant). slice_index r.free a.order + 1 < 2 ^ 32) (sym tenant) (room a.order a.superblocks.items a.tenants.items c.self.invariant.0 c.args.t s.listed a.order).0

-- the root word of a superblock that is one free block
whole_root : (top : ℕ) (words : List ℕ) → top ≤ WIDE_ORDER → Shows top (λ _. true) words → slice_index words 0 ≡ 1 * 2 ^ top % 65536
whole_root top words small shows =
    first_word (λ _. true) top words shows ∙ orders_clear (λ _. true) top 0 (clear_from (λ _. true) top 0 (λ x h. refl)) ∙ sym (one_shl top 16 (omega arith))

-- the sets that are read are the tenant's summary
sets_read : (c : After-fill_bare) → (sets : List (List Bool)) → sets ≡ get_or c.self.inside.summaries.items c.args.t sets → sets ≡ summary_of c.self.inside.superblocks.items (stored_tenant c.args.t c.self.inside.tenants.items)
sets_read c sets read =
    let a = c.self.inside in
    let s = shown_is a.order a.superblocks.items a.tenants.items c.args.t c.args.self.now c.self.view_is c.requires.tenant in
    summary_read a.superblocks.items a.tenants.items a.summaries.items c.self.invariant.1 c.args.t s.listed sets read

pub note-requires-clause-slot : goal.note-requires-clause-slot
note-requires-clause-slot c =
    let a = c.self.inside in
    let g = goal.at.note-requires-clause-slot c in
    let s = shown_is a.order a.superblocks.items a.tenants.items c.args.t c.args.self.now c.self.view_is c.requires.tenant in
    let slot_lt : c.args.slot < length a.superblocks.items = subst (λ n. c.args.slot < n) s.count c.requires.slot in
    slot_in a.superblocks.items (stored_tenant c.args.t a.tenants.items) c.index_mut-2.result.now (sets_read g.After-fill_bare c.index_mut-2.result.now c.index_mut-2.ensures.value) c.args.slot
    (subst (λ n. c.args.slot < n) (sym (c.self.invariant.0.each c.args.t s.listed).sizes.slots) slot_lt)

pub note-requires-clause-before : goal.note-requires-clause-before
note-requires-clause-before c =
    let a = c.self.inside in
    let g = goal.at.note-requires-clause-before c in
    let s = shown_is a.order a.superblocks.items a.tenants.items c.args.t c.args.self.now c.self.view_is c.requires.tenant in
    let at = slot_at a.order a.superblocks.items a.tenants.items c.args.self.now c.self.view_is in
    none_before c.self.inside.superblocks.items (stored_tenant c.args.t c.self.inside.tenants.items) (c.self.invariant.0.each c.args.t s.listed).sizes (sets_read g.After-fill_bare c.index_mut-2.result.now c.index_mut-2.ensures.value) c.args.slot (sym (at c.args.t c.args.slot) ∙ c.requires.free)

pub note-requires-clause-orders : goal.note-requires-clause-orders
note-requires-clause-orders c j bit =
    let a = c.self.inside in
    let g = goal.at.note-requires-clause-orders c in
    let s = shown_is a.order a.superblocks.items a.tenants.items c.args.t c.args.self.now c.self.view_is c.requires.tenant in
    let sizes = (c.self.invariant.0.each c.args.t s.listed).sizes in
    let small = c.self.invariant.0.small in
    let one = one_shl a.order 16 (omega arith) in
    let is = bit_apart a.order j (ap (λ n. bit_at n j) (sym one) ∙ bit) in
    let count = ap length (sets_read g.After-fill_bare c.index_mut-2.result.now c.index_mut-2.ensures.value) ∙ summary_size a.superblocks.items (stored_tenant c.args.t a.tenants.items) ∙ sizes.free in
    omega arith

-- after the call the invariant holds, and contracts see superblock m in the slot
added : (c : After-add_slot)
    → (IsKept c.self.inside.order (set c.self.inside.superblocks.items c.args.m c.fill_bare.new.self) (set c.self.inside.tenants.items c.args.t c.add_slot.new.self)
    × AreExact (set c.self.inside.superblocks.items c.args.m c.fill_bare.new.self) (set c.self.inside.tenants.items c.args.t c.add_slot.new.self) (set c.self.inside.summaries.items c.args.t c.note.new.self))
    × (content_shown c.self.inside.order (set c.self.inside.superblocks.items c.args.m c.fill_bare.new.self) (set c.self.inside.tenants.items c.args.t c.add_slot.new.self)
    ≡ with_holding c.args.t (with_slot c.args.slot c.args.m (holding_of c.args.t c.args.self.now)) c.args.self.now)
added c =
    let a = c.self.inside in
    let s = shown_is a.order a.superblocks.items a.tenants.items c.args.t c.args.self.now c.self.view_is c.requires.tenant in
    let at = slot_at a.order a.superblocks.items a.tenants.items c.args.self.now c.self.view_is in
    let slot_lt : c.args.slot < length a.superblocks.items = subst (λ n. c.args.slot < n) s.count c.requires.slot in
    let m_lt : c.args.m < length a.superblocks.items = subst (λ n. c.args.m < n) s.count c.requires.superblock in
    let tenant = get_or_read a.tenants.items c.args.t c.index_mut-3.result.now s.listed c.index_mut-3.ensures.value blank_of in
    let superblock = get_or_read a.superblocks.items c.args.m c.index_mut.result.now m_lt c.index_mut.ensures.value bare_of in
    let order = c.fill_bare.ensures.order ∙ ap (λ (z : StoredSuperblock). z.tree.order) superblock in
    let orders = c.fill_bare.ensures.orders ∙ ap (λ (z : StoredSuperblock). z.orders) superblock in
    let words = subst (λ n. Shows n (λ _. true) c.fill_bare.new.self.tree.words) (ap (λ (z : StoredSuperblock). z.tree.order) superblock ∙ c.self.invariant.0.order c.args.m m_lt) c.fill_bare.ensures.words in
    let written = c.add_slot.ensures ∙ ap (λ (r : StoredTenant). record r { slots = set r.slots c.args.slot (Some c.args.m); free = set r.free a.order (slice_index r.free a.order + 1) }) tenant in
    let empty = sym (at c.args.t c.args.slot) ∙ c.requires.free in
    let change = grant_change a.order a.superblocks.items a.tenants.items c.self.invariant.0 c.args.t s.listed c.args.slot c.args.m slot_lt m_lt empty
    (λ v w there. c.requires.unused v w (at v w ∙ there)) c.fill_bare.new.self order orders words in
    let holding = grant_holding a.order a.superblocks.items a.tenants.items c.self.invariant.0 c.args.t s.listed c.args.slot c.args.m slot_lt m_lt empty
    (λ v w there. c.requires.unused v w (at v w ∙ there)) c.fill_bare.new.self order orders words in
    let kept = subst (λ (r : StoredTenant). IsKept a.order (set a.superblocks.items c.args.m c.fill_bare.new.self) (set a.tenants.items c.args.t r)) (sym written)
    (kept_changed a.order a.superblocks.items a.tenants.items c.args.t c.args.m c.fill_bare.new.self _ c.self.invariant.0 change) in
    let noted = grant_noted a.order a.superblocks.items a.tenants.items c.self.invariant.0 c.args.t s.listed c.args.slot c.args.m slot_lt m_lt empty
    (λ v w there. c.requires.unused v w (at v w ∙ there)) c.fill_bare.new.self order orders words (1 * 2 ^ a.order % 65536) (whole_root a.order c.fill_bare.new.self.tree.words c.self.invariant.0.small words) in (
      (
        kept,
        exact_noted a.superblocks.items a.tenants.items a.summaries.items c.self.invariant.1 c.args.t c.args.m c.args.slot c.fill_bare.new.self c.add_slot.new.self (1 * 2 ^ a.order % 65536)
            (subst (λ (r : StoredTenant). IsNoted a.superblocks.items a.tenants.items c.args.t c.args.m c.args.slot c.fill_bare.new.self r (1 * 2 ^ a.order % 65536)) (sym written) noted)
            c.index_mut-2.result.now c.note.new.self c.index_mut-2.ensures.value c.note.ensures.size c.note.ensures.sets,
      ),
      ap (λ (r : StoredTenant). content_shown a.order (set a.superblocks.items c.args.m c.fill_bare.new.self) (set a.tenants.items c.args.t r)) written
          ∙ shown_changed a.order a.superblocks.items a.tenants.items c.args.t c.args.m c.fill_bare.new.self _ c.self.invariant.0 change _ holding
          ∙ ap (λ y. with_holding c.args.t (with_slot c.args.slot c.args.m (holding_shown a.order a.superblocks.items (stored_tenant c.args.t a.tenants.items))) y) c.self.view_is
          ∙ ap (λ g. with_holding c.args.t (with_slot c.args.slot c.args.m g) c.args.self.now) (sym s.holding),
    )

pub invariant_of-self : goal.invariant_of-self
invariant_of-self c = (added (goal.at.invariant_of-self c).After-add_slot).0

pub returns : goal.returns
returns c = (added (goal.at.returns c).After-add_slot).1
