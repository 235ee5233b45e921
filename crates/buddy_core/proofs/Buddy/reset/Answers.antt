use Rattle.std.proofs.Common.{◌≡◌, refl, sym, ◌∙◌, ap, subst, ℕ, ◌+◌, ◌<◌, ◌≤◌, List, Some, None, get_or, set, replicate, length, arith}
use Rattle.std.proofs.lemmas.List.{get_or_read}
use Rattle.std.proofs.lemmas.Nat.Bits.{bit_at-zero}
use Rattle.std.specs.Prelude.{slice_index}
use Rattle.std.proofs.lemmas.Option.{none-some}
use Rattle.buddy_core.specs.declared.Buddy.TheInside.{Inside}
use Rattle.buddy_core.specs.Content as contents
use Rattle.buddy_core.specs.Content.{Content, holding_of, with_holding, nothing_held}
use Rattle.buddy_core.specs.Stored.{StoredTree, StoredSuperblock, StoredTenant, bare_superblock, bare_tenant, stored_tenant, superblock_at, holding_shown, content_shown}
use Rattle.buddy_core.specs.Summary.{AreExact}
use Rattle.buddy_core.specs.Kept.{IsKept, HasTenantSizes, available_in}
use Rattle.buddy_core.specs.Tree.{Shows}
use Rattle.buddy_core.proofs.ExactSummaries.{summary_read, slot_in}
use Rattle.buddy_core.proofs.SummaryNoted.{word_before}
use Rattle.buddy_core.proofs.ContentShown.{slot_within, shown_is, slot_read, blank_of, bare_of}
use Rattle.buddy_core.proofs.NothingHeld.{cleared_tenant}
use Rattle.buddy_core.proofs.TenantReset.{Cleared, cleared_none, cleared_past, cleared_more, cleared_on, next_same, reset_kept, reset_shown, reset_exact, cleared_exact}
use Rattle.buddy_core.proofs.Buddy.reset.Goals as goal

pub loop-slot-init : goal.loop-slot-init
loop-slot-init c =
    let a = c.self.inside in
    (cleared_none a.order a.superblocks.items (stored_tenant c.args.t a.tenants.items), refl, refl, c.self.invariant.1)

pub loop-slot-preserved : goal.loop-slot-preserved
loop-slot-preserved c =
    let a = c.self.inside in
    let s = shown_is a.order a.superblocks.items a.tenants.items c.args.t c.args.self.now c.self.view_is c.requires in
    let l = c.loop-slot in
    let superblocks = l.self-inside.superblocks.items in
    let tenant = stored_tenant c.args.t a.tenants.items in
    let read : c.index.result.now ≡ get_or a.tenants.items c.args.t c.index.result.now = c.index.ensures ∙ ap (λ (xs : List StoredTenant). get_or xs c.args.t c.index.result.now) l.invariant.1 in
    let exact : Inside → Type 0 = λ z. AreExact z.superblocks.items a.tenants.items z.summaries.items in
    let apart = λ (w v i : ℕ) (p : superblock_at tenant w ≡ Some i) (q : superblock_at tenant v ≡ Some i). (c.self.invariant.0.apart c.args.t w c.args.t v i p q).1 in
    elim c.match-superblock_at.branch [
      | goal.in-Some w ↦
          let m = w.in-Some.m in
          let at = slot_read a.tenants.items c.args.t c.index.result.now s.listed read l.slot (Some m) (w.in-Some.ensures ∙ ap (superblock_at c.index.result.now) c.from.ensures) in
          let m_lt = (c.self.invariant.0.each c.args.t s.listed).within l.slot m at in
          let now_lt : m < length superblocks = subst (λ n. m < n) (sym l.invariant.0.size) m_lt in
          let order = ap (λ (z : StoredSuperblock). z.tree.order) (next_same a.order a.superblocks.items superblocks tenant l.slot m at apart l.invariant.0) ∙ c.self.invariant.0.order m m_lt in
          let old = get_or_read superblocks m w.index_mut.result.now now_lt w.index_mut.ensures.value bare_of in
          let blank = w.clear.ensures ∙ ap (λ (z : StoredSuperblock). bare_superblock z.tree.order) old ∙ ap bare_superblock order in (
            subst (λ (xs : List StoredSuperblock). Cleared a.order a.superblocks.items xs tenant (l.slot + 1)) (sym (ap (λ (z : Inside). z.superblocks.items) w.self-inside-is))
                (cleared_more a.order a.superblocks.items superblocks tenant l.slot m w.clear.new.self at m_lt blank apart l.invariant.0),
            ap (λ (z : Inside). z.tenants.items) w.self-inside-is ∙ l.invariant.1,
            ap (λ (z : Inside). z.order) w.self-inside-is ∙ l.invariant.2,
            subst exact (sym w.self-inside-is)
                (cleared_exact a.order a.superblocks.items superblocks a.tenants.items l.self-inside.summaries.items c.self.invariant.0 l.invariant.3 c.args.t l.slot m w.clear.new.self s.listed at now_lt blank
                w.index_mut-in-Some.result.now w.note.new.self w.index_mut-in-Some.ensures.value w.note.ensures.size w.note.ensures.sets),
          )
      | goal.in_default w ↦
          let at = slot_read a.tenants.items c.args.t c.index.result.now s.listed read l.slot None (w.in_default.ensures ∙ ap (superblock_at c.index.result.now) c.from.ensures) in (
            subst (λ (xs : List StoredSuperblock). Cleared a.order a.superblocks.items xs tenant (l.slot + 1)) (sym (ap (λ (z : Inside). z.superblocks.items) w.self-inside-is))
                (cleared_past a.order a.superblocks.items superblocks tenant l.slot (λ m there. none-some m (sym at ∙ there)) l.invariant.0),
            ap (λ (z : Inside). z.tenants.items) w.self-inside-is ∙ l.invariant.1,
            ap (λ (z : Inside). z.order) w.self-inside-is ∙ l.invariant.2,
            subst exact (sym w.self-inside-is) l.invariant.3,
          )
    ]

-- the loop ends at `end`, and the tenant holds no slot from `end` on
all_cleared : (top : ℕ) (before after : List StoredSuperblock) (tenant : StoredTenant) (t : ℕ) (now : Content) → holding_of t now ≡ holding_shown top before tenant → (end slot : ℕ) → end ≤ slot
    → ((u : ℕ) → end ≤ u → contents.superblock_at (holding_of t now) u ≡ None) → (n : ℕ) → Cleared top before after tenant slot → Cleared top before after tenant (slot + n)
all_cleared top before after tenant t now holding end slot ended rest n c =
    cleared_on top before after tenant slot c (λ u le. sym (ap (λ h. contents.superblock_at h u) holding) ∙ rest u (omega arith)) n

-- if the slots and counts of tenant t are cleared, the tenant holds nothing
tenant_cleared : (top n : ℕ) (now tenants : List StoredTenant) (t : ℕ) (old new : StoredTenant) → now ≡ tenants → t < length tenants → old ≡ get_or now t old → HasTenantSizes top n (stored_tenant t tenants)
    → new.slots ≡ replicate (length old.slots) None → new.free ≡ replicate (length old.free) 0 → new.taken ≡ replicate (length old.taken) 0 → new ≡ bare_tenant top n
tenant_cleared top n now tenants t old new same lt read sizes slots free taken =
    cleared_tenant top n old new (subst (HasTenantSizes top n) (sym (get_or_read tenants t old lt (read ∙ ap (λ (xs : List StoredTenant). get_or xs t old) same) blank_of)) sizes) slots free taken

pub invariant_of-self : goal.invariant_of-self
invariant_of-self c =
    let a = c.self.inside in
    let s = shown_is a.order a.superblocks.items a.tenants.items c.args.t c.args.self.now c.self.view_is c.requires in
    let l = c.loop-slot in
    let past = l.slot + length a.superblocks.items in
    let cleared = all_cleared a.order a.superblocks.items l.self-inside.superblocks.items (stored_tenant c.args.t a.tenants.items) c.args.t c.args.self.now s.holding c.slots_end-end.result l.slot (omega arith) c.slots_end-end.ensures.rest
    (length a.superblocks.items) l.invariant.0 in
    let tenant = tenant_cleared a.order (length a.superblocks.items) l.self-inside.tenants.items a.tenants.items c.args.t c.index_mut-2.result.now c.clear-2.new.self l.invariant.1 s.listed c.index_mut-2.ensures.value
    (c.self.invariant.0.each c.args.t s.listed).sizes c.clear-2.ensures.slots c.clear-2.ensures.free c.clear-2.ensures.taken in
    let base = reset_kept a.order a.superblocks.items a.tenants.items c.self.invariant.0 c.args.t s.listed l.self-inside.superblocks.items past (omega arith) cleared in
    let exact = reset_exact a.order a.superblocks.items a.tenants.items c.self.invariant.0 c.args.t s.listed l.self-inside.superblocks.items past (omega arith) cleared l.self-inside.summaries.items l.invariant.3 in (
      subst (λ n. IsKept n l.self-inside.superblocks.items (set l.self-inside.tenants.items c.args.t c.clear-2.new.self)) (sym l.invariant.2)
          (subst (λ (xs : List StoredTenant). IsKept a.order l.self-inside.superblocks.items (set xs c.args.t c.clear-2.new.self)) (sym l.invariant.1)
          (subst (λ (r : StoredTenant). IsKept a.order l.self-inside.superblocks.items (set a.tenants.items c.args.t r)) (sym tenant) base)),
      subst (λ (xs : List StoredTenant). AreExact l.self-inside.superblocks.items (set xs c.args.t c.clear-2.new.self) l.self-inside.summaries.items) (sym l.invariant.1)
          (subst (λ (r : StoredTenant). AreExact l.self-inside.superblocks.items (set a.tenants.items c.args.t r) l.self-inside.summaries.items) (sym tenant) exact),
    )

pub note-requires-clause-slot : goal.note-requires-clause-slot
note-requires-clause-slot c =
    let a = c.self.inside in
    let s = shown_is a.order a.superblocks.items a.tenants.items c.args.t c.args.self.now c.self.view_is c.requires in
    let l = c.loop-slot in
    let tenant = stored_tenant c.args.t a.tenants.items in
    let read : c.index.result.now ≡ get_or a.tenants.items c.args.t c.index.result.now = c.index.ensures ∙ ap (λ (xs : List StoredTenant). get_or xs c.args.t c.index.result.now) l.invariant.1 in
    let at = slot_read a.tenants.items c.args.t c.index.result.now s.listed read l.slot (Some c.in-Some.m) (c.in-Some.ensures ∙ ap (superblock_at c.index.result.now) c.from.ensures) in
    let sets = summary_read l.self-inside.superblocks.items a.tenants.items l.self-inside.summaries.items l.invariant.3 c.args.t s.listed c.index_mut-in-Some.result.now c.index_mut-in-Some.ensures.value in
    slot_in l.self-inside.superblocks.items tenant c.index_mut-in-Some.result.now sets l.slot (slot_within tenant.slots l.slot c.in-Some.m at)

pub note-requires-clause-before : goal.note-requires-clause-before
note-requires-clause-before c =
    let a = c.self.inside in
    let s = shown_is a.order a.superblocks.items a.tenants.items c.args.t c.args.self.now c.self.view_is c.requires in
    let l = c.loop-slot in
    let m = c.in-Some.m in
    let superblocks = l.self-inside.superblocks.items in
    let tenant = stored_tenant c.args.t a.tenants.items in
    let mine = c.self.invariant.0.each c.args.t s.listed in
    let read : c.index.result.now ≡ get_or a.tenants.items c.args.t c.index.result.now = c.index.ensures ∙ ap (λ (xs : List StoredTenant). get_or xs c.args.t c.index.result.now) l.invariant.1 in
    let at = slot_read a.tenants.items c.args.t c.index.result.now s.listed read l.slot (Some m) (c.in-Some.ensures ∙ ap (superblock_at c.index.result.now) c.from.ensures) in
    let now_lt : m < length superblocks = subst (λ n. m < n) (sym l.invariant.0.size) (mine.within l.slot m at) in
    let apart = λ (w v i : ℕ) (p : superblock_at tenant w ≡ Some i) (q : superblock_at tenant v ≡ Some i). (c.self.invariant.0.apart c.args.t w c.args.t v i p q).1 in
    let same = next_same a.order a.superblocks.items superblocks tenant l.slot m at apart l.invariant.0 in
    let sets = summary_read superblocks a.tenants.items l.self-inside.summaries.items l.invariant.3 c.args.t s.listed c.index_mut-in-Some.result.now c.index_mut-in-Some.ensures.value in
    let root = c.root-root.ensures ∙ ap (λ (z : StoredTree). slice_index z.words 0) c.tree.ensures
    ∙ ap (λ (z : StoredSuperblock). slice_index z.tree.words 0) (get_or_read superblocks m c.index-in-Some.result.now now_lt c.index-in-Some.ensures bare_of) in
    word_before superblocks tenant mine.sizes sets l.slot m c.root-root.result (available_in a.order a.superblocks.items tenant l.slot) at
    (subst (λ (z : StoredSuperblock). Shows a.order (available_in a.order a.superblocks.items tenant l.slot) z.tree.words) (sym same) (mine.shows l.slot m at)) root

pub note-requires-clause-orders : goal.note-requires-clause-orders
note-requires-clause-orders c j bit = absurd (let off = bit_at-zero j in omega arith)

pub returns : goal.returns
returns c =
    let a = c.self.inside in
    let s = shown_is a.order a.superblocks.items a.tenants.items c.args.t c.args.self.now c.self.view_is c.requires in
    let l = c.loop-slot in
    let past = l.slot + length a.superblocks.items in
    let cleared = all_cleared a.order a.superblocks.items l.self-inside.superblocks.items (stored_tenant c.args.t a.tenants.items) c.args.t c.args.self.now s.holding c.slots_end-end.result l.slot (omega arith) c.slots_end-end.ensures.rest
    (length a.superblocks.items) l.invariant.0 in
    let tenant = tenant_cleared a.order (length a.superblocks.items) l.self-inside.tenants.items a.tenants.items c.args.t c.index_mut-2.result.now c.clear-2.new.self l.invariant.1 s.listed c.index_mut-2.ensures.value
    (c.self.invariant.0.each c.args.t s.listed).sizes c.clear-2.ensures.slots c.clear-2.ensures.free c.clear-2.ensures.taken in
    let shown = reset_shown a.order a.superblocks.items a.tenants.items c.self.invariant.0 c.args.t s.listed l.self-inside.superblocks.items past (omega arith) cleared in
    ap (λ n. content_shown n l.self-inside.superblocks.items (set l.self-inside.tenants.items c.args.t c.clear-2.new.self)) l.invariant.2
    ∙ ap (λ (xs : List StoredTenant). content_shown a.order l.self-inside.superblocks.items (set xs c.args.t c.clear-2.new.self)) l.invariant.1
    ∙ ap (λ (r : StoredTenant). content_shown a.order l.self-inside.superblocks.items (set a.tenants.items c.args.t r)) tenant
    ∙ shown
    ∙ ap (λ y. with_holding c.args.t (nothing_held a.order (length a.superblocks.items)) y) c.self.view_is
    ∙ ap (λ n. with_holding c.args.t (nothing_held n (length a.superblocks.items)) c.args.self.now) (sym s.order)
    ∙ ap (λ n. with_holding c.args.t (nothing_held c.args.self.now.top n) c.args.self.now) (sym s.count)
