use Rattle.std.proofs.Common.{◌≡◌, refl, sym, ◌∙◌, ap, subst, ◌+◌, ◌*◌, ◌/◌, ◌%◌, ◌^◌, ◌<◌, Bool, List, Some, None, length, get_or, arith}
use Rattle.std.specs.Prelude.{slice_index}
use Rattle.std.proofs.lemmas.Nat.{pow_pos, mod_below}
use Rattle.std.proofs.lemmas.List.{get_or_read}
use Rattle.buddy_core.specs.Content.{superblock_at as held_at, holding_of, taken_of, with_holding, without_block}
use Rattle.buddy_core.specs.Counts.{CanCountMore}
use Rattle.buddy_core.specs.Summary.{summary_of}
use Rattle.buddy_core.specs.Stored.{StoredTree, StoredSuperblock, StoredTenant, stored_tenant, superblock_of, superblock_at, holding_shown}
use Rattle.buddy_core.proofs.ContentShown.{IsShown, slot_within, shown_is, slot_at, size_is, blank_of, bare_of}
use Rattle.buddy_core.proofs.TenantCounts.{room, slot_small}
use Rattle.buddy_core.proofs.TenantChanged.{kept_changed, shown_changed}
use Rattle.buddy_core.proofs.BlockSteps.{IsStep, step_change, holding_now}
use Rattle.buddy_core.proofs.Releasing.{IsAt, begins_at, at_frame, superblock_lt, order_le, Released, joined_order, joined_is, joined_le, rises, some_taken, some_buddies, released_step}
use Rattle.buddy_core.proofs.ExactSummaries.{summary_read, slot_in, exact_noted}
use Rattle.buddy_core.proofs.SummaryNoted.{word_before, orders_listed, step_noted}
use Rattle.buddy_core.proofs.Buddy.release_in.Goals as goal
use Rattle.buddy_core.proofs.Buddy.release_in.Goals.{After-self, In_ok-k, After-release_at-joined, After-index_mut, After-count_released}

-- What contracts see of tenant t is what is stored for it. Superblock m is in the slot of the frame, and stores the order of the
-- taken block that begins at the frame.
shown : (c : After-self) → IsShown c.self.inside.order c.self.inside.superblocks.items c.self.inside.tenants.items c.args.t c.args.self.now
shown c = shown_is c.self.inside.order c.self.inside.superblocks.items c.self.inside.tenants.items c.args.t c.args.self.now c.self.view_is c.requires.tenant

under : (c : After-self) → superblock_at (stored_tenant c.args.t c.self.inside.tenants.items) (c.args.frame / 2 ^ c.self.inside.order) ≡ Some c.args.m
under c =
    sym (slot_at c.self.inside.order c.self.inside.superblocks.items c.self.inside.tenants.items c.args.self.now c.self.view_is c.args.t (c.args.frame / 2 ^ c.self.inside.order))
    ∙ (ap (λ n. held_at (holding_of c.args.t c.args.self.now) (c.args.frame / 2 ^ n)) (sym (shown c).order) ∙ c.requires.under)

within : (c : After-self) → c.args.m < length c.self.inside.superblocks.items
within c = (c.self.invariant.0.each c.args.t (shown c).listed).within _ _ (under c)

superblock_read : (c : After-self) (z : StoredSuperblock) → z ≡ get_or c.self.inside.superblocks.items c.args.m z
    → (z ≡ superblock_of c.args.m c.self.inside.superblocks.items) × (z.tree.order ≡ c.self.inside.order)
superblock_read c z e =
    let read = get_or_read c.self.inside.superblocks.items c.args.m z (within c) e bare_of in
    (read, ap (λ (y : StoredSuperblock). y.tree.order) read ∙ c.self.invariant.0.order c.args.m (within c))

begins : (c : After-self) (z : StoredSuperblock) → z ≡ get_or c.self.inside.superblocks.items c.args.m z
    → get_or z.orders (c.args.frame % (1 * 2 ^ c.self.inside.order % 4294967296)) None ≡ taken_of (holding_of c.args.t c.args.self.now) c.args.frame
begins c z e =
    let a = c.self.inside in
    ap (λ (y : StoredSuperblock). get_or y.orders (c.args.frame % (1 * 2 ^ a.order % 4294967296)) None) (superblock_read c z e).0
    ∙ begins_at a.order a.superblocks.items a.tenants.items c.self.invariant.0.small c.args.t c.args.self.now (shown c) c.args.frame (Some c.args.m) (under c)

pub index-requires : goal.index-requires
index-requires c =
    let m_lt = within (goal.at.index-requires c).After-self in
    omega (arith, c.self.inside.superblocks.ok.0)

pub index_mut-superblock-requires : goal.index_mut-superblock-requires
index_mut-superblock-requires c =
    let m_lt = within (goal.at.index_mut-superblock-requires c).After-self in
    omega (arith, c.self.inside.superblocks.ok.0)

pub order_at-requires : goal.order_at-requires
order_at-requires c =
    let order = ap (λ n. 2 ^ n) (superblock_read (goal.at.order_at-requires c).After-self c.index.result.now c.index.ensures).1 in
    omega (arith, order, size_is c.self.inside.order c.self.invariant.0.small, mod_below c.args.frame (2 ^ c.self.inside.order) (pow_pos c.self.inside.order))

pub returns-in_err-k-clause-answer : goal.returns-in_err-k-clause-answer
returns-in_err-k-clause-answer c =
    c.from_residual.ensures ∙ c.in_err-k.ensures ∙ begins (goal.at.returns-in_err-k-clause-answer c).After-self c.index.result.now c.index.ensures

pub returns-clause-answer : goal.returns-clause-answer
returns-clause-answer c = c.in_ok-k.ensures ∙ begins (goal.at.returns-clause-answer c).After-self c.index.result.now c.index.ensures

-- a taken block of order k begins at the frame
block_at : (c : In_ok-k) → IsShown c.self.inside.order c.self.inside.superblocks.items c.self.inside.tenants.items c.args.t c.args.self.now
    → superblock_at (stored_tenant c.args.t c.self.inside.tenants.items) (c.args.frame / 2 ^ c.self.inside.order) ≡ Some c.args.m
    → Some c.in_ok-k.k ≡ taken_of (holding_of c.args.t c.args.self.now) c.args.frame
    → IsAt c.self.inside.order c.self.inside.superblocks.items c.self.inside.tenants.items c.args.t c.args.frame c.in_ok-k.k c.args.m (c.args.frame % (1 * 2 ^ c.self.inside.order % 4294967296))
block_at c s at is =
    at_frame c.self.inside.order c.self.inside.superblocks.items c.self.inside.tenants.items c.self.invariant.0.small c.args.t c.args.self.now s
    c.args.frame c.in_ok-k.k c.args.m _ at is refl

pub release_at-joined-requires-clause-order : goal.release_at-joined-requires-clause-order
release_at-joined-requires-clause-order c =
    let g = goal.at.release_at-joined-requires-clause-order c in
    let at = block_at g.In_ok-k (shown g.After-self) (under g.After-self) (c.in_ok-k.ensures ∙ begins g.After-self c.index.result.now c.index.ensures) in
    let order = (superblock_read g.After-self c.index_mut-superblock.result.now c.index_mut-superblock.ensures.value).1 in
    let within = order_le c.self.invariant.0 at in
    omega arith

pub release_at-joined-requires-clause-first : goal.release_at-joined-requires-clause-first
release_at-joined-requires-clause-first c =
    let g = goal.at.release_at-joined-requires-clause-first c in
    let at = block_at g.In_ok-k (shown g.After-self) (under g.After-self) (c.in_ok-k.ensures ∙ begins g.After-self c.index.result.now c.index.ensures) in
    subst (λ n. c.args.frame % (1 * 2 ^ c.self.inside.order % 4294967296) < 2 ^ n) (sym (superblock_read g.After-self c.index_mut-superblock.result.now c.index_mut-superblock.ensures.value).1) at.inside

-- `release_at` returns the order of the joined block
joined : (c : After-release_at-joined)
    → (at : IsAt c.self.inside.order c.self.inside.superblocks.items c.self.inside.tenants.items c.args.t c.args.frame c.in_ok-k.k c.args.m (c.args.frame % (1 * 2 ^ c.self.inside.order % 4294967296)))
    → c.release_at-joined.result ≡ joined_order c.self.invariant.0 at
joined c at =
    joined_is c.self.invariant.0 at c.release_at-joined.result c.index_mut-superblock.result.now
    (get_or_read c.self.inside.superblocks.items c.args.m c.index_mut-superblock.result.now (superblock_lt c.self.invariant.0 at) c.index_mut-superblock.ensures.value bare_of)
    c.release_at-joined.ensures.joined

-- the tenant that is read for the counts is tenant t as it was before the call
tenant_read : (c : After-index_mut) → c.args.t < length c.self.inside.tenants.items → c.index_mut.result.now ≡ stored_tenant c.args.t c.self.inside.tenants.items
tenant_read c lt = get_or_read c.self.inside.tenants.items c.args.t c.index_mut.result.now lt c.index_mut.ensures.value blank_of

pub count_released-requires-clause-order : goal.count_released-requires-clause-order
count_released-requires-clause-order c =
    let g = goal.at.count_released-requires-clause-order c in
    let at = block_at g.In_ok-k (shown g.After-self) (under g.After-self) (c.in_ok-k.ensures ∙ begins g.After-self c.index.result.now c.index.ensures) in
    let is = joined g.After-release_at-joined at in
    let up = rises c.self.invariant.0 at in
    omega arith

pub count_released-requires-clause-to : goal.count_released-requires-clause-to
count_released-requires-clause-to c =
    let g = goal.at.count_released-requires-clause-to c in
    let at = block_at g.In_ok-k (shown g.After-self) (under g.After-self) (c.in_ok-k.ensures ∙ begins g.After-self c.index.result.now c.index.ensures) in
    let is = joined g.After-release_at-joined at in
    let le = joined_le c.self.invariant.0 at in
    let size : length c.index_mut.result.now.free ≡ c.self.inside.order + 1 = ap (λ (r : StoredTenant). length r.free) (tenant_read g.After-index_mut at.listed) ∙ (c.self.invariant.0.each c.args.t at.listed).sizes.free in
    omega arith

pub count_released-requires-clause-taken : goal.count_released-requires-clause-taken
count_released-requires-clause-taken c =
    let g = goal.at.count_released-requires-clause-taken c in
    let at = block_at g.In_ok-k (shown g.After-self) (under g.After-self) (c.in_ok-k.ensures ∙ begins g.After-self c.index.result.now c.index.ensures) in
    subst (λ (r : StoredTenant). 0 < slice_index r.taken c.in_ok-k.k) (sym (tenant_read g.After-index_mut at.listed)) (some_taken c.self.invariant.0 at)

pub count_released-requires-clause-buddies : goal.count_released-requires-clause-buddies
count_released-requires-clause-buddies c i up lt =
    let g = goal.at.count_released-requires-clause-buddies c in
    let at = block_at g.In_ok-k (shown g.After-self) (under g.After-self) (c.in_ok-k.ensures ∙ begins g.After-self c.index.result.now c.index.ensures) in
    subst (λ (r : StoredTenant). 0 < slice_index r.free i) (sym (tenant_read g.After-index_mut at.listed))
    (some_buddies c.self.invariant.0 at i up (subst (λ n. i < n) (joined g.After-release_at-joined at) lt))

pub count_released-requires-clause-room : goal.count_released-requires-clause-room
count_released-requires-clause-room c =
    let a = c.self.inside in
    let g = goal.at.count_released-requires-clause-room c in
    let at = block_at g.In_ok-k (shown g.After-self) (under g.After-self) (c.in_ok-k.ensures ∙ begins g.After-self c.index.result.now c.index.ensures) in
    subst CanCountMore (sym (tenant_read g.After-index_mut at.listed)) (room a.order a.superblocks.items a.tenants.items c.self.invariant.0 c.args.t at.listed)

-- what is written for superblock m and for tenant t is their state after the release of the block
release : (c : After-count_released)
    → (at : IsAt c.self.inside.order c.self.inside.superblocks.items c.self.inside.tenants.items c.args.t c.args.frame c.in_ok-k.k c.args.m (c.args.frame % (1 * 2 ^ c.self.inside.order % 4294967296)))
    → c.release_at-joined.result ≡ joined_order c.self.invariant.0 at → c.index_mut.result.now ≡ stored_tenant c.args.t c.self.inside.tenants.items
    → Released (joined_order c.self.invariant.0 at) c.in_ok-k.k (c.args.frame % (1 * 2 ^ c.self.inside.order % 4294967296)) (superblock_of c.args.m c.self.inside.superblocks.items)
    (stored_tenant c.args.t c.self.inside.tenants.items) c.release_at-joined.new.self c.count_released.new.self
release c at order tenant =
    let a = c.self.inside in
    let x = c.args.frame % (1 * 2 ^ a.order % 4294967296) in
    let superblock = get_or_read a.superblocks.items c.args.m c.index_mut-superblock.result.now (superblock_lt c.self.invariant.0 at) c.index_mut-superblock.ensures.value bare_of in
    let change : Released c.release_at-joined.result c.in_ok-k.k x c.index_mut-superblock.result.now c.index_mut.result.now c.release_at-joined.new.self c.count_released.new.self = record {
      order = c.release_at-joined.ensures.order;
      stored = c.release_at-joined.ensures.inside;
      orders = c.release_at-joined.ensures.orders;
      words = c.release_at-joined.ensures.words;
      counts = c.count_released.ensures;
    } in
    subst (λ n. Released n c.in_ok-k.k x (superblock_of c.args.m a.superblocks.items) (stored_tenant c.args.t a.tenants.items) c.release_at-joined.new.self c.count_released.new.self) order
    (subst (λ (r : StoredTenant). Released c.release_at-joined.result c.in_ok-k.k x (superblock_of c.args.m a.superblocks.items) r c.release_at-joined.new.self c.count_released.new.self) tenant
    (subst (λ (z : StoredSuperblock). Released c.release_at-joined.result c.in_ok-k.k x z c.index_mut.result.now c.release_at-joined.new.self c.count_released.new.self) superblock change))

released : (c : After-count_released)
    → (at : IsAt c.self.inside.order c.self.inside.superblocks.items c.self.inside.tenants.items c.args.t c.args.frame c.in_ok-k.k c.args.m (c.args.frame % (1 * 2 ^ c.self.inside.order % 4294967296)))
    → c.release_at-joined.result ≡ joined_order c.self.invariant.0 at → c.index_mut.result.now ≡ stored_tenant c.args.t c.self.inside.tenants.items
    → IsStep c.self.inside.order c.self.inside.superblocks.items c.self.inside.tenants.items c.args.t (c.args.frame / 2 ^ c.self.inside.order) c.args.m
    (c.args.frame % (1 * 2 ^ c.self.inside.order % 4294967296)) c.release_at-joined.new.self c.count_released.new.self None
released c at order tenant = released_step c.self.invariant.0 at c.release_at-joined.new.self c.count_released.new.self (release c at order tenant)

pub invariant_of-self : goal.invariant_of-self
invariant_of-self c =
    let a = c.self.inside in
    let g = goal.at.invariant_of-self c in
    let at = block_at g.In_ok-k (shown g.After-self) (under g.After-self) (c.in_ok-k.ensures ∙ begins g.After-self c.index.result.now c.index.ensures) in
    let step = released g.After-count_released at (joined g.After-release_at-joined at) (tenant_read g.After-index_mut at.listed) in
    let kept = kept_changed a.order a.superblocks.items a.tenants.items c.args.t c.args.m c.release_at-joined.new.self c.count_released.new.self c.self.invariant.0
    (step_change a.order a.superblocks.items a.tenants.items c.args.t (c.args.frame / 2 ^ a.order) c.args.m (c.args.frame % (1 * 2 ^ a.order % 4294967296)) c.release_at-joined.new.self c.count_released.new.self None c.self.invariant.0 step) in
    let root = c.root.ensures ∙ ap (λ (z : StoredTree). slice_index z.words 0) c.tree-2.ensures in (
      kept,
      exact_noted a.superblocks.items a.tenants.items a.summaries.items c.self.invariant.1 c.args.t c.args.m (c.args.frame / 2 ^ a.order) c.release_at-joined.new.self c.count_released.new.self c.root.result
          (step_noted a.order a.superblocks.items a.tenants.items c.self.invariant.0 c.args.t (c.args.frame / 2 ^ a.order) c.args.m (c.args.frame % (1 * 2 ^ a.order % 4294967296))
          c.release_at-joined.new.self c.count_released.new.self None step c.root.result root)
          c.index_mut-2.result.now c.note.new.self c.index_mut-2.ensures.value c.note.ensures.size c.note.ensures.sets,
    )

pub overflow_cast-slot-2 : goal.overflow_cast-slot-2
overflow_cast-slot-2 c =
    let a = c.self.inside in
    let g = goal.at.overflow_cast-slot-2 c in
    let small = slot_small a.order a.superblocks.items a.tenants.items c.self.invariant.0 c.args.t (shown g.After-self).listed (c.args.frame / 2 ^ a.order) c.args.m (under g.After-self) in
    omega arith

-- the sets that are read are the tenant's summary
sets_read : (c : After-count_released) → (sets : List (List Bool)) → sets ≡ get_or c.self.inside.summaries.items c.args.t sets → c.args.t < length c.self.inside.tenants.items
    → sets ≡ summary_of c.self.inside.superblocks.items (stored_tenant c.args.t c.self.inside.tenants.items)
sets_read c sets read lt = summary_read c.self.inside.superblocks.items c.self.inside.tenants.items c.self.inside.summaries.items c.self.invariant.1 c.args.t lt sets read

pub note-requires-clause-slot : goal.note-requires-clause-slot
note-requires-clause-slot c =
    let a = c.self.inside in
    let g = goal.at.note-requires-clause-slot c in
    let u = c.args.frame / 2 ^ a.order in
    let tenant = stored_tenant c.args.t a.tenants.items in
    slot_in a.superblocks.items tenant c.index_mut-2.result.now (sets_read g.After-count_released c.index_mut-2.result.now c.index_mut-2.ensures.value (shown g.After-self).listed) u
    (slot_within tenant.slots u c.args.m (under g.After-self))

pub note-requires-clause-before : goal.note-requires-clause-before
note-requires-clause-before c =
    let a = c.self.inside in
    let g = goal.at.note-requires-clause-before c in
    let listed = (shown g.After-self).listed in
    let mine = c.self.invariant.0.each c.args.t listed in
    let root = c.root-old.ensures ∙ ap (λ (z : StoredTree). slice_index z.words 0) c.tree.ensures
    ∙ ap (λ (z : StoredSuperblock). slice_index z.tree.words 0) (superblock_read g.After-self c.index_mut-superblock.result.now c.index_mut-superblock.ensures.value).0 in
    word_before c.self.inside.superblocks.items (stored_tenant c.args.t c.self.inside.tenants.items) mine.sizes (sets_read g.After-count_released c.index_mut-2.result.now c.index_mut-2.ensures.value listed) (c.args.frame / 2 ^ a.order) c.args.m c.root-old.result _ (under g.After-self)
    (mine.shows (c.args.frame / 2 ^ a.order) c.args.m (under g.After-self)) root

pub note-requires-clause-orders : goal.note-requires-clause-orders
note-requires-clause-orders c =
    let g = goal.at.note-requires-clause-orders c in
    let at = block_at g.In_ok-k (shown g.After-self) (under g.After-self) (c.in_ok-k.ensures ∙ begins g.After-self c.index.result.now c.index.ensures) in
    let step = released g.After-count_released at (joined g.After-release_at-joined at) (tenant_read g.After-index_mut at.listed) in
    orders_listed c.self.inside.superblocks.items (stored_tenant c.args.t c.self.inside.tenants.items) (c.self.invariant.0.each c.args.t at.listed).sizes (sets_read g.After-count_released c.index_mut-2.result.now c.index_mut-2.ensures.value at.listed) _ c.release_at-joined.new.self.tree.words
    c.root.result step.shows (c.root.ensures ∙ ap (λ (z : StoredTree). slice_index z.words 0) c.tree-2.ensures)

pub returns-clause-done : goal.returns-clause-done
returns-clause-done c =
    let a = c.self.inside in
    let g = goal.at.returns-clause-done c in
    let at = block_at g.In_ok-k (shown g.After-self) (under g.After-self) (c.in_ok-k.ensures ∙ begins g.After-self c.index.result.now c.index.ensures) in
    let s = shown_is a.order a.superblocks.items a.tenants.items c.args.t c.args.self.now c.self.view_is c.requires.tenant in
    let x = c.args.frame % (1 * 2 ^ a.order % 4294967296) in
    let u = c.args.frame / 2 ^ a.order in
    let step = released g.After-count_released at (joined g.After-release_at-joined at) (tenant_read g.After-index_mut at.listed) in
    let changed = step_change a.order a.superblocks.items a.tenants.items c.args.t u c.args.m x c.release_at-joined.new.self c.count_released.new.self None c.self.invariant.0 step in
    let h = without_block (u * 2 ^ a.order + x) (holding_shown a.order a.superblocks.items (stored_tenant c.args.t a.tenants.items)) in
    shown_changed a.order a.superblocks.items a.tenants.items c.args.t c.args.m c.release_at-joined.new.self c.count_released.new.self c.self.invariant.0 changed h
    (holding_now a.order a.superblocks.items a.tenants.items c.args.t u c.args.m x c.release_at-joined.new.self c.count_released.new.self None c.self.invariant.0 step)
    ∙ ap (λ y. with_holding c.args.t h y) c.self.view_is
    ∙ ap (λ g. with_holding c.args.t (without_block (u * 2 ^ a.order + x) g) c.args.self.now) (sym s.holding)
    ∙ ap (λ n. with_holding c.args.t (without_block n (holding_of c.args.t c.args.self.now)) c.args.self.now) at.whole
