use Rattle.std.proofs.Common.{◌≡◌, refl, sym, ◌∙◌, ap, subst, true, ◌+◌, ◌-◌, ◌^◌, ◌<◌, Bool, List, Some, None, length, get_or, set, arith}
use Rattle.std.specs.Prelude.{slice_index, slice_index_or, is_some}
use Rattle.std.proofs.lemmas.List.{get_or_read}
use Rattle.std.proofs.lemmas.Nat.Bits.{bit_at-zero}
use Rattle.std.proofs.lemmas.Nat.{one_shl}
use Rattle.model_core.specs.Blocks.{HasTaken, slot_block}
use Rattle.buddy_core.specs.Content.{with_holding, without_slot}
use Rattle.buddy_core.specs.Stored.{StoredTree, StoredSuperblock, StoredTenant, bare_superblock, stored_tenant, superblock_of, superblock_at, held_by, taken_by, holding_shown, content_shown}
use Rattle.buddy_core.specs.Tree.{Shows}
use Rattle.buddy_core.specs.Kept.{IsKept}
use Rattle.buddy_core.specs.Summary.{summary_of, AreExact}
use Rattle.buddy_core.proofs.ContentShown.{IsShown, slot_within, shown_is, slot_read, by_shown, blank_of, bare_of}
use Rattle.buddy_core.proofs.TenantChanged.{kept_changed, shown_changed}
use Rattle.buddy_core.proofs.SlotDropped.{quiet, all_available, no_order, busy, dropped, some_free, drop_change, drop_holding, drop_noted}
use Rattle.buddy_core.proofs.ExactSummaries.{summary_read, slot_in, exact_noted}
use Rattle.buddy_core.proofs.SummaryNoted.{word_before}
use Rattle.buddy_core.proofs.Buddy.drop_slot.Goals as goal
use Rattle.buddy_core.proofs.Buddy.drop_slot.Goals.{After-unwrap-m, After-root, Else-root-order, After-drop_slot}

-- what contracts see of tenant t is what is stored for it, and m is the superblock in the slot
shown : (c : After-unwrap-m) → IsShown c.self.inside.order c.self.inside.superblocks.items c.self.inside.tenants.items c.args.t c.args.self.now
shown c = shown_is c.self.inside.order c.self.inside.superblocks.items c.self.inside.tenants.items c.args.t c.args.self.now c.self.view_is c.requires.tenant

under : (c : After-unwrap-m) → superblock_at (stored_tenant c.args.t c.self.inside.tenants.items) c.args.slot ≡ Some c.unwrap-m.result
under c =
    ap (superblock_at (stored_tenant c.args.t c.self.inside.tenants.items)) (sym c.from.ensures)
    ∙ slot_read c.self.inside.tenants.items c.args.t c.index.result.now (shown c).listed c.index.ensures c.from.result (Some c.unwrap-m.result) (sym c.unwrap-m.ensures ∙ c.superblock_at.ensures)

-- the word that `root` returns is the root word of superblock m
first_word : (c : After-root) → c.unwrap-m.result < length c.self.inside.superblocks.items → c.root.result ≡ slice_index (superblock_of c.unwrap-m.result c.self.inside.superblocks.items).tree.words 0
first_word c lt =
    c.root.ensures ∙ ap (λ (t : StoredTree). slice_index t.words 0) c.tree.ensures ∙ ap (λ (z : StoredSuperblock). slice_index z.tree.words 0) (get_or_read c.self.inside.superblocks.items c.unwrap-m.result c.index-2.result.now lt c.index-2.ensures bare_of)

pub returns-then-root-order-clause-busy : goal.returns-then-root-order-clause-busy
returns-then-root-order-clause-busy c =
    let a = c.self.inside in
    let g = goal.at.returns-then-root-order-clause-busy c in
    let s = shown g.After-unwrap-m in
    let at = under g.After-unwrap-m in
    let mine = c.self.invariant.0.each c.args.t s.listed in
    let small = c.self.invariant.0.small in
    let one = one_shl a.order 16 (omega arith) in
    let held = held_by (stored_tenant c.args.t a.tenants.items) in
    let taken = taken_by a.order a.superblocks.items (stored_tenant c.args.t a.tenants.items) in (
      by_shown (λ top held taken. HasTaken taken (slot_block top c.args.slot)) a.order a.superblocks.items a.tenants.items c.args.t c.args.self.now s
          (busy a.order held taken c.args.slot (superblock_of c.unwrap-m.result a.superblocks.items).tree.words (mine.shows c.args.slot c.unwrap-m.result at) (ap is_some at)
          (λ e. c.if-root-order.true (first_word g.After-root (mine.within c.args.slot c.unwrap-m.result at) ∙ e ∙ sym one))),
      refl,
    )

-- if the root word is 2 ^ order, no frame of the slot is taken
none_taken : (c : Else-root-order) → c.args.t < length c.self.inside.tenants.items → superblock_at (stored_tenant c.args.t c.self.inside.tenants.items) c.args.slot ≡ Some c.unwrap-m.result
    → c.root.result ≡ slice_index (superblock_of c.unwrap-m.result c.self.inside.superblocks.items).tree.words 0
    → HasTaken (taken_by c.self.inside.order c.self.inside.superblocks.items (stored_tenant c.args.t c.self.inside.tenants.items)) (slot_block c.self.inside.order c.args.slot) → ⊥
none_taken c listed at root =
    let a = c.self.inside in
    let small = c.self.invariant.0.small in
    let one = one_shl a.order 16 (omega arith) in
    quiet a.order (held_by (stored_tenant c.args.t a.tenants.items)) (taken_by a.order a.superblocks.items (stored_tenant c.args.t a.tenants.items)) c.args.slot
    (superblock_of c.unwrap-m.result a.superblocks.items).tree.words ((c.self.invariant.0.each c.args.t listed).shows c.args.slot c.unwrap-m.result at) (sym root ∙ c.if-root-order.false ∙ one)

pub drop_slot-requires-clause-order : goal.drop_slot-requires-clause-order
drop_slot-requires-clause-order c =
    let a = c.self.inside in
    let s = shown (goal.at.drop_slot-requires-clause-order c).After-unwrap-m in
    let tenant = get_or_read a.tenants.items c.args.t c.index_mut-3.result.now s.listed c.index_mut-3.ensures.value blank_of in
    let size : length c.index_mut-3.result.now.free ≡ a.order + 1 = ap (λ (r : StoredTenant). length r.free) tenant ∙ (c.self.invariant.0.each c.args.t s.listed).sizes.free in
    omega arith

pub drop_slot-requires-clause-some : goal.drop_slot-requires-clause-some
drop_slot-requires-clause-some c =
    let a = c.self.inside in
    let g = goal.at.drop_slot-requires-clause-some c in
    let s = shown g.After-unwrap-m in
    let at = under g.After-unwrap-m in
    let none = none_taken g.Else-root-order s.listed at (first_word g.After-root ((c.self.invariant.0.each c.args.t s.listed).within c.args.slot c.unwrap-m.result at)) in
    let tenant = get_or_read a.tenants.items c.args.t c.index_mut-3.result.now s.listed c.index_mut-3.ensures.value blank_of in
    subst (λ (r : StoredTenant). 0 < slice_index r.free a.order) (sym tenant)
    (some_free a.order a.superblocks.items a.tenants.items c.self.invariant.0 c.args.t s.listed c.args.slot c.unwrap-m.result at none)

pub empty_whole-requires-clause-whole : goal.empty_whole-requires-clause-whole
empty_whole-requires-clause-whole c =
    let a = c.self.inside in
    let g = goal.at.empty_whole-requires-clause-whole c in
    let s = shown g.After-unwrap-m in
    let at = under g.After-unwrap-m in
    let mine = c.self.invariant.0.each c.args.t s.listed in
    let m_lt = mine.within c.args.slot c.unwrap-m.result at in
    let small = c.self.invariant.0.small in
    let one = one_shl a.order 16 (omega arith) in
    let old = get_or_read a.superblocks.items c.unwrap-m.result c.index_mut.result.now m_lt c.index_mut.ensures.value bare_of in
    subst (λ (z : StoredSuperblock). Shows z.tree.order (λ _. true) z.tree.words) (sym old)
    (subst (λ n. Shows n (λ _. true) (superblock_of c.unwrap-m.result a.superblocks.items).tree.words) (sym (c.self.invariant.0.order c.unwrap-m.result m_lt))
    (all_available a.order (held_by (stored_tenant c.args.t a.tenants.items)) (taken_by a.order a.superblocks.items (stored_tenant c.args.t a.tenants.items)) c.args.slot
    (superblock_of c.unwrap-m.result a.superblocks.items).tree.words (mine.shows c.args.slot c.unwrap-m.result at) (sym (first_word g.After-root m_lt) ∙ c.if-root-order.false ∙ one)))

pub empty_whole-requires-clause-untaken : goal.empty_whole-requires-clause-untaken
empty_whole-requires-clause-untaken c x lt =
    let a = c.self.inside in
    let g = goal.at.empty_whole-requires-clause-untaken c in
    let s = shown g.After-unwrap-m in
    let at = under g.After-unwrap-m in
    let m_lt = (c.self.invariant.0.each c.args.t s.listed).within c.args.slot c.unwrap-m.result at in
    let none = none_taken g.Else-root-order s.listed at (first_word g.After-root m_lt) in
    let old = get_or_read a.superblocks.items c.unwrap-m.result c.index_mut.result.now m_lt c.index_mut.ensures.value bare_of in
    let small : x < 2 ^ a.order = subst (λ n. x < 2 ^ n) (ap (λ (z : StoredSuperblock). z.tree.order) old ∙ c.self.invariant.0.order c.unwrap-m.result m_lt) lt in
    ap (λ (z : StoredSuperblock). slice_index_or z.orders x None) old
    ∙ no_order a.order a.superblocks.items a.tenants.items c.self.invariant.0 c.args.t s.listed c.args.slot c.unwrap-m.result at none x small

-- the superblock that is written is blank, and the tenant that is written is tenant t without the slot and its free block
blank : (c : After-drop_slot) → c.unwrap-m.result < length c.self.inside.superblocks.items → c.empty_whole.new.self ≡ bare_superblock c.self.inside.order
blank c lt =
    let a = c.self.inside in
    let old = get_or_read a.superblocks.items c.unwrap-m.result c.index_mut.result.now lt c.index_mut.ensures.value bare_of in
    c.empty_whole.ensures ∙ ap (λ (z : StoredSuperblock). bare_superblock z.tree.order) old ∙ ap bare_superblock (c.self.invariant.0.order c.unwrap-m.result lt)

written : (c : After-drop_slot) → c.args.t < length c.self.inside.tenants.items
    → c.drop_slot.new.self ≡ record (stored_tenant c.args.t c.self.inside.tenants.items) {
      slots = set (stored_tenant c.args.t c.self.inside.tenants.items).slots c.args.slot None;
      free = set (stored_tenant c.args.t c.self.inside.tenants.items).free c.self.inside.order (slice_index (stored_tenant c.args.t c.self.inside.tenants.items).free c.self.inside.order - 1);
    }
written c lt =
    let a = c.self.inside in
    c.drop_slot.ensures ∙ ap (λ (r : StoredTenant). record r { slots = set r.slots c.args.slot None; free = set r.free a.order (slice_index r.free a.order - 1) })
    (get_or_read a.tenants.items c.args.t c.index_mut-3.result.now lt c.index_mut-3.ensures.value blank_of)

pub invariant_of-self : goal.invariant_of-self
invariant_of-self c =
    let a = c.self.inside in
    let g = goal.at.invariant_of-self c in
    let s = shown g.After-unwrap-m in
    let at = under g.After-unwrap-m in
    let m_lt = (c.self.invariant.0.each c.args.t s.listed).within c.args.slot c.unwrap-m.result at in
    let none = none_taken g.Else-root-order s.listed at (first_word g.After-root m_lt) in
    let noted = drop_noted a.order a.superblocks.items a.tenants.items c.self.invariant.0 c.args.t s.listed c.args.slot c.unwrap-m.result at none in
    subst (λ (r : StoredTenant). IsKept a.order (set a.superblocks.items c.unwrap-m.result c.empty_whole.new.self) (set a.tenants.items c.args.t r)
    × AreExact (set a.superblocks.items c.unwrap-m.result c.empty_whole.new.self) (set a.tenants.items c.args.t r) (set a.summaries.items c.args.t c.note.new.self)) (sym (written g.After-drop_slot s.listed))
    (subst (λ (z : StoredSuperblock). IsKept a.order (set a.superblocks.items c.unwrap-m.result z) (set a.tenants.items c.args.t (dropped a.order a.superblocks.items a.tenants.items c.self.invariant.0 c.args.t s.listed c.args.slot c.unwrap-m.result at none))
    × AreExact (set a.superblocks.items c.unwrap-m.result z) (set a.tenants.items c.args.t (dropped a.order a.superblocks.items a.tenants.items c.self.invariant.0 c.args.t s.listed c.args.slot c.unwrap-m.result at none)) (set a.summaries.items c.args.t c.note.new.self))
    (sym (blank g.After-drop_slot m_lt)) (
      kept_changed a.order a.superblocks.items a.tenants.items c.args.t c.unwrap-m.result (bare_superblock a.order) _ c.self.invariant.0
          (drop_change a.order a.superblocks.items a.tenants.items c.self.invariant.0 c.args.t s.listed c.args.slot c.unwrap-m.result at none),
      exact_noted a.superblocks.items a.tenants.items a.summaries.items c.self.invariant.1 c.args.t c.unwrap-m.result c.args.slot (bare_superblock a.order) _ 0 noted
          c.index_mut-2.result.now c.note.new.self c.index_mut-2.ensures.value c.note.ensures.size c.note.ensures.sets,
    ))

-- the sets that are read are the tenant's summary
sets_read : (c : After-unwrap-m) → (sets : List (List Bool)) → sets ≡ get_or c.self.inside.summaries.items c.args.t sets → sets ≡ summary_of c.self.inside.superblocks.items (stored_tenant c.args.t c.self.inside.tenants.items)
sets_read c sets read = summary_read c.self.inside.superblocks.items c.self.inside.tenants.items c.self.inside.summaries.items c.self.invariant.1 c.args.t (shown c).listed sets read

pub note-requires-clause-slot : goal.note-requires-clause-slot
note-requires-clause-slot c =
    let a = c.self.inside in
    let g = goal.at.note-requires-clause-slot c in
    let tenant = stored_tenant c.args.t a.tenants.items in
    slot_in a.superblocks.items tenant c.index_mut-2.result.now (sets_read g.After-unwrap-m c.index_mut-2.result.now c.index_mut-2.ensures.value) c.args.slot
    (slot_within tenant.slots c.args.slot c.unwrap-m.result (under g.After-unwrap-m))

pub note-requires-clause-before : goal.note-requires-clause-before
note-requires-clause-before c =
    let a = c.self.inside in
    let g = goal.at.note-requires-clause-before c in
    let at = under g.After-unwrap-m in
    let mine = c.self.invariant.0.each c.args.t (shown g.After-unwrap-m).listed in
    word_before c.self.inside.superblocks.items (stored_tenant c.args.t c.self.inside.tenants.items) mine.sizes (sets_read g.After-unwrap-m c.index_mut-2.result.now c.index_mut-2.ensures.value) c.args.slot c.unwrap-m.result _ _ at (mine.shows c.args.slot c.unwrap-m.result at)
    (sym c.if-root-order.false ∙ first_word g.After-root (mine.within c.args.slot c.unwrap-m.result at))

pub note-requires-clause-orders : goal.note-requires-clause-orders
note-requires-clause-orders c j bit = absurd (let off = bit_at-zero j in omega arith)

pub returns-clause-done : goal.returns-clause-done
returns-clause-done c =
    let a = c.self.inside in
    let g = goal.at.returns-clause-done c in
    let s = shown g.After-unwrap-m in
    let at = under g.After-unwrap-m in
    let m_lt = (c.self.invariant.0.each c.args.t s.listed).within c.args.slot c.unwrap-m.result at in
    let none = none_taken g.Else-root-order s.listed at (first_word g.After-root m_lt) in
    let change = drop_change a.order a.superblocks.items a.tenants.items c.self.invariant.0 c.args.t s.listed c.args.slot c.unwrap-m.result at none in (
      by_shown (λ top held taken. HasTaken taken (slot_block top c.args.slot) → ⊥) a.order a.superblocks.items a.tenants.items c.args.t c.args.self.now s none,
      ap (λ (r : StoredTenant). content_shown a.order (set a.superblocks.items c.unwrap-m.result c.empty_whole.new.self) (set a.tenants.items c.args.t r)) (written g.After-drop_slot s.listed)
          ∙ ap (λ (z : StoredSuperblock). content_shown a.order (set a.superblocks.items c.unwrap-m.result z) (set a.tenants.items c.args.t (dropped a.order a.superblocks.items a.tenants.items c.self.invariant.0 c.args.t s.listed c.args.slot c.unwrap-m.result at none))) (blank g.After-drop_slot m_lt)
          ∙ shown_changed a.order a.superblocks.items a.tenants.items c.args.t c.unwrap-m.result (bare_superblock a.order) _ c.self.invariant.0 change _
          (drop_holding a.order a.superblocks.items a.tenants.items c.self.invariant.0 c.args.t s.listed c.args.slot c.unwrap-m.result at none)
          ∙ ap (λ y. with_holding c.args.t (without_slot c.args.slot (holding_shown a.order a.superblocks.items (stored_tenant c.args.t a.tenants.items))) y) c.self.view_is
          ∙ ap (λ g. with_holding c.args.t (without_slot c.args.slot g) c.args.self.now) (sym s.holding),
    )
