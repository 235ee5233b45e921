use Rattle.std.proofs.Common.{◌≡◌, sym, ◌∙◌, ap, subst, ◌+◌, ◌*◌, ◌/◌, ◌%◌, ◌^◌, ◌<◌, ◌≤◌, Bool, Option, Some, None, List, length, get_or, set, arith}
use Rattle.std.specs.Prelude.{slice_index, IfNone}
use Rattle.std.proofs.lemmas.List.{get_or_read, set-get_or}
use Rattle.std.proofs.lemmas.Nat.{shl_whole, mul-le, div-mul-add}
use Rattle.std.proofs.Math.Pow.{pow_mono}
use Rattle.model_core.specs.declared.limits.TheConstants.{WIDE_SUPERBLOCKS}
use Rattle.model_core.specs.Blocks.{block, IsChoice, IsWithout}
use Rattle.buddy_core.specs.Content.{holding_of, superblock_at, is_held, taken_of, with_holding, with_block}
use Rattle.buddy_core.specs.Counts.{CanCountMore}
use Rattle.buddy_core.specs.Summary.{summary_of, AreExact}
use Rattle.buddy_core.specs.Roots.{IsCounted, IsSource, IsWithoutOrder}
use Rattle.buddy_core.specs.Stored.{StoredTree, StoredSuperblock, StoredTenant, stored_tenant, superblock_of, holding_shown}
use Rattle.buddy_core.proofs.ContentShown.{IsShown, slot_within, shown_is, by_shown, blank_of, bare_of}
use Rattle.buddy_core.proofs.TenantCounts.{room, slot_small}
use Rattle.buddy_core.proofs.TenantChanged.{kept_changed, shown_changed}
use Rattle.buddy_core.proofs.BlockSteps.{IsStep, step_change, holding_now}
use Rattle.buddy_core.proofs.Reserving.{Reserved, source_at, counted, none_without, order_within, IsFound, found_at, superblock_lt, is_choice, some_free, reserved_step}
use Rattle.buddy_core.proofs.ExactSummaries.{summary_read, slot_in, exact_noted}
use Rattle.buddy_core.proofs.SummaryNoted.{word_before, orders_listed, step_noted}
use Rattle.buddy_core.proofs.Buddy.reserve_block.Goals as goal
use Rattle.buddy_core.proofs.Buddy.reserve_block.Goals.{After-index, After-index_mut-superblock, After-search-first, After-index_mut, After-count_reserved}

-- what contracts see of tenant t is what is stored for it, and the tenant that is read is tenant t
shown : (c : After-index) → IsShown c.self.inside.order c.self.inside.superblocks.items c.self.inside.tenants.items c.args.t c.args.self.now
shown c = shown_is c.self.inside.order c.self.inside.superblocks.items c.self.inside.tenants.items c.args.t c.args.self.now c.self.view_is c.requires.tenant

tenant_read : (c : After-index) → c.index.result.now ≡ stored_tenant c.args.t c.self.inside.tenants.items
tenant_read c = get_or_read c.self.inside.tenants.items c.args.t c.index.result.now (shown c).listed c.index.ensures blank_of

pub find-requires-clause-counted : goal.find-requires-clause-counted
find-requires-clause-counted c =
    let a = c.self.inside in
    let before = (goal.at.find-requires-clause-counted c).After-index in
    subst (λ (r : StoredTenant). IsCounted c.deref.result.now r) (sym (tenant_read before))
    (subst (λ (xs : List StoredSuperblock). IsCounted xs (stored_tenant c.args.t a.tenants.items)) (sym c.deref.ensures.value)
    (counted a.order a.superblocks.items a.tenants.items c.self.invariant.0 c.args.t (shown before).listed))

pub returns-in_err-source-clause-refused : goal.returns-in_err-source-clause-refused
returns-in_err-source-clause-refused c =
    let a = c.self.inside in
    let before = (goal.at.returns-in_err-source-clause-refused c).After-index in
    let none : IsWithoutOrder c.deref.result.now c.index.result.now.slots c.args.k = c.in_err-source.ensures in
    let here : IsWithoutOrder a.superblocks.items (stored_tenant c.args.t a.tenants.items).slots c.args.k
    = subst (λ (r : StoredTenant). IsWithoutOrder a.superblocks.items r.slots c.args.k) (tenant_read before) (subst (λ (xs : List StoredSuperblock). IsWithoutOrder xs c.index.result.now.slots c.args.k) c.deref.ensures.value none) in
    if_none c.from_residual.result _ (
      by_shown (λ top held taken. IsWithout top held taken c.args.k) a.order a.superblocks.items a.tenants.items c.args.t c.args.self.now (shown before)
          (none_without a.order a.superblocks.items a.tenants.items c.self.invariant.0 c.args.t (shown before).listed c.args.k here),
      c.self.view_is,
    )
  where
    if_none : {A : Type 0} (o : Option A) (P : Type 0) → P → IfNone o P
    if_none None P p = p
    if_none (Some x) P p = tt

-- `find` returned a source in the stored superblocks and in the slots of tenant t
source : (c : After-index_mut-superblock) → c.index.result.now ≡ stored_tenant c.args.t c.self.inside.tenants.items
    → IsSource c.self.inside.superblocks.items (stored_tenant c.args.t c.self.inside.tenants.items).slots c.args.k c.in_ok-source.source
source c tenant =
    source_at c.deref.result.now c.self.inside.superblocks.items c.index.result.now.slots (stored_tenant c.args.t c.self.inside.tenants.items).slots c.args.k c.in_ok-source.source
    c.deref.ensures.value (ap (λ (r : StoredTenant). r.slots) tenant) c.in_ok-source.ensures

-- the superblock that is read is the superblock of the source, and its tree has the order of the machine's superblocks
superblock_read : (c : After-index_mut-superblock) → (source : IsSource c.self.inside.superblocks.items (stored_tenant c.args.t c.self.inside.tenants.items).slots c.args.k c.in_ok-source.source)
    → c.args.t < length c.self.inside.tenants.items → c.index_mut-superblock.result.now ≡ superblock_of c.in_ok-source.source.superblock c.self.inside.superblocks.items
superblock_read c source listed =
    let p = c.in_ok-source.source in
    get_or_read c.self.inside.superblocks.items p.superblock c.index_mut-superblock.result.now ((c.self.invariant.0.each c.args.t listed).within p.slot p.superblock source.at) c.index_mut-superblock.ensures.value bare_of

order_read : (c : After-index_mut-superblock) → (source : IsSource c.self.inside.superblocks.items (stored_tenant c.args.t c.self.inside.tenants.items).slots c.args.k c.in_ok-source.source)
    → c.args.t < length c.self.inside.tenants.items → c.index_mut-superblock.result.now.tree.order ≡ c.self.inside.order
order_read c source listed =
    let p = c.in_ok-source.source in
    ap (λ (z : StoredSuperblock). z.tree.order) (superblock_read c source listed) ∙ c.self.invariant.0.order p.superblock ((c.self.invariant.0.each c.args.t listed).within p.slot p.superblock source.at)

pub search-first-requires : goal.search-first-requires
search-first-requires c =
    let a = c.self.inside in
    let g = goal.at.search-first-requires c in
    let listed = (shown g.After-index).listed in
    let at = source g.After-index_mut-superblock (tenant_read g.After-index) in
    let order = ap (λ (t : StoredTree). t.order) c.tree-2.ensures ∙ order_read g.After-index_mut-superblock at listed in
    let within = order_within a.order a.superblocks.items a.tenants.items c.self.invariant.0 c.args.t listed c.args.k c.in_ok-source.source at in
    omega arith

pub reserve_at-requires-clause-from : goal.reserve_at-requires-clause-from
reserve_at-requires-clause-from c =
    let a = c.self.inside in
    let g = goal.at.reserve_at-requires-clause-from c in
    let listed = (shown g.After-index).listed in
    let at = source g.After-index_mut-superblock (tenant_read g.After-index) in
    let order = order_read g.After-index_mut-superblock at listed in
    let within = order_within a.order a.superblocks.items a.tenants.items c.self.invariant.0 c.args.t listed c.args.k c.in_ok-source.source at in
    omega arith

pub reserve_at-requires-clause-first : goal.reserve_at-requires-clause-first
reserve_at-requires-clause-first c = subst (λ (t : StoredTree). c.search-first.result < 2 ^ t.order) c.tree-2.ensures c.search-first.ensures.within

-- `search` returned the first frame of the first free block of the source's order
found : (c : After-search-first) → c.args.t < length c.self.inside.tenants.items
    → IsSource c.self.inside.superblocks.items (stored_tenant c.args.t c.self.inside.tenants.items).slots c.args.k c.in_ok-source.source
    → IsFound c.self.inside.order c.self.inside.superblocks.items c.self.inside.tenants.items c.args.t c.args.k c.in_ok-source.source c.search-first.result
found c listed at =
    let a = c.self.inside in
    let p = c.in_ok-source.source in
    found_at a.order a.superblocks.items a.tenants.items c.self.invariant.0 c.args.t listed c.args.k p at c.tree-2.result.now
    (c.tree-2.ensures ∙ ap (λ (z : StoredSuperblock). z.tree) (get_or_read a.superblocks.items p.superblock c.index_mut-superblock.result.now ((c.self.invariant.0.each c.args.t listed).within p.slot p.superblock at.at) c.index_mut-superblock.ensures.value bare_of)) c.search-first.result (c.search-first.ensures.within, c.search-first.ensures.found)

-- the tenant that is read for the counts is tenant t as it was before the call
tenant_before : (c : After-index_mut) → c.args.t < length c.self.inside.tenants.items → c.index_mut.result.now ≡ stored_tenant c.args.t c.self.inside.tenants.items
tenant_before c lt = get_or_read c.self.inside.tenants.items c.args.t c.index_mut.result.now lt c.index_mut.ensures.value blank_of

pub count_reserved-requires-clause-from : goal.count_reserved-requires-clause-from
count_reserved-requires-clause-from c =
    let a = c.self.inside in
    let g = goal.at.count_reserved-requires-clause-from c in
    let listed = (shown g.After-index).listed in
    let within = order_within a.order a.superblocks.items a.tenants.items c.self.invariant.0 c.args.t listed c.args.k c.in_ok-source.source (source g.After-index_mut-superblock (tenant_read g.After-index)) in
    let size : length c.index_mut.result.now.free ≡ a.order + 1 = ap (λ (r : StoredTenant). length r.free) (tenant_before g.After-index_mut listed) ∙ (c.self.invariant.0.each c.args.t listed).sizes.free in
    omega arith

pub count_reserved-requires-clause-free : goal.count_reserved-requires-clause-free
count_reserved-requires-clause-free c =
    let g = goal.at.count_reserved-requires-clause-free c in
    let listed = (shown g.After-index).listed in
    subst (λ (r : StoredTenant). 0 < slice_index r.free c.in_ok-source.source.order) (sym (tenant_before g.After-index_mut listed))
    (some_free c.self.invariant.0 (found g.After-search-first listed (source g.After-index_mut-superblock (tenant_read g.After-index))))

pub count_reserved-requires-clause-room : goal.count_reserved-requires-clause-room
count_reserved-requires-clause-room c =
    let a = c.self.inside in
    let g = goal.at.count_reserved-requires-clause-room c in
    let listed = (shown g.After-index).listed in
    subst CanCountMore (sym (tenant_before g.After-index_mut listed)) (room a.order a.superblocks.items a.tenants.items c.self.invariant.0 c.args.t listed)

-- what is written for the source's superblock and for tenant t is their state after the reservation of the block
reservation : (c : After-count_reserved)
    → (found : IsFound c.self.inside.order c.self.inside.superblocks.items c.self.inside.tenants.items c.args.t c.args.k c.in_ok-source.source c.search-first.result)
    → c.index_mut.result.now ≡ stored_tenant c.args.t c.self.inside.tenants.items
    → Reserved c.in_ok-source.source.order c.args.k c.search-first.result (superblock_of c.in_ok-source.source.superblock c.self.inside.superblocks.items)
    (stored_tenant c.args.t c.self.inside.tenants.items) c.reserve_at.new.self c.count_reserved.new.self
reservation c found tenant =
    let a = c.self.inside in
    let p = c.in_ok-source.source in
    let x = c.search-first.result in
    let superblock = get_or_read a.superblocks.items p.superblock c.index_mut-superblock.result.now (superblock_lt c.self.invariant.0 found) c.index_mut-superblock.ensures.value bare_of in
    let change : Reserved p.order c.args.k x c.index_mut-superblock.result.now c.index_mut.result.now c.reserve_at.new.self c.count_reserved.new.self = record {
      order = c.reserve_at.ensures.order;
      stored = c.reserve_at.ensures.inside;
      orders = c.reserve_at.ensures.orders;
      words = c.reserve_at.ensures.words;
      counts = c.count_reserved.ensures;
    } in
    subst (λ (r : StoredTenant). Reserved p.order c.args.k x (superblock_of p.superblock a.superblocks.items) r c.reserve_at.new.self c.count_reserved.new.self) tenant
    (subst (λ (z : StoredSuperblock). Reserved p.order c.args.k x z c.index_mut.result.now c.reserve_at.new.self c.count_reserved.new.self) superblock change)

reserved : (c : After-count_reserved)
    → (found : IsFound c.self.inside.order c.self.inside.superblocks.items c.self.inside.tenants.items c.args.t c.args.k c.in_ok-source.source c.search-first.result)
    → c.index_mut.result.now ≡ stored_tenant c.args.t c.self.inside.tenants.items
    → IsStep c.self.inside.order c.self.inside.superblocks.items c.self.inside.tenants.items c.args.t c.in_ok-source.source.slot c.in_ok-source.source.superblock
    c.search-first.result c.reserve_at.new.self c.count_reserved.new.self (Some c.args.k)
reserved c found tenant = reserved_step c.self.invariant.0 found c.reserve_at.new.self c.count_reserved.new.self (reservation c found tenant)

-- the sets that are read are the tenant's summary
sets_read : (c : After-index) → (sets : List (List Bool)) → sets ≡ get_or c.self.inside.summaries.items c.args.t sets → sets ≡ summary_of c.self.inside.superblocks.items (stored_tenant c.args.t c.self.inside.tenants.items)
sets_read c sets read = summary_read c.self.inside.superblocks.items c.self.inside.tenants.items c.self.inside.summaries.items c.self.invariant.1 c.args.t (shown c).listed sets read

pub find-requires-clause-exact : goal.find-requires-clause-exact
find-requires-clause-exact c =
    let a = c.self.inside in
    let before = (goal.at.find-requires-clause-exact c).After-index in
    subst (λ (r : StoredTenant). c.index_mut-summary.result.now ≡ summary_of c.deref.result.now r) (sym (tenant_read before))
    (subst (λ (xs : List StoredSuperblock). c.index_mut-summary.result.now ≡ summary_of xs (stored_tenant c.args.t a.tenants.items)) (sym c.deref.ensures.value)
    (sets_read before c.index_mut-summary.result.now c.index_mut-summary.ensures.value))

pub note-requires-clause-slot : goal.note-requires-clause-slot
note-requires-clause-slot c =
    let a = c.self.inside in
    let p = c.in_ok-source.source in
    let g = goal.at.note-requires-clause-slot c in
    let tenant = stored_tenant c.args.t a.tenants.items in
    slot_in a.superblocks.items tenant c.index_mut-summary.result.now (sets_read g.After-index c.index_mut-summary.result.now c.index_mut-summary.ensures.value) p.slot
    (slot_within tenant.slots p.slot p.superblock (source g.After-index_mut-superblock (tenant_read g.After-index)).at)

pub note-requires-clause-before : goal.note-requires-clause-before
note-requires-clause-before c =
    let a = c.self.inside in
    let p = c.in_ok-source.source in
    let g = goal.at.note-requires-clause-before c in
    let listed = (shown g.After-index).listed in
    let mine = c.self.invariant.0.each c.args.t listed in
    let source = source g.After-index_mut-superblock (tenant_read g.After-index) in
    let root = c.root-old.ensures ∙ ap (λ (z : StoredTree). slice_index z.words 0) c.tree.ensures ∙ ap (λ (z : StoredSuperblock). slice_index z.tree.words 0) (superblock_read g.After-index_mut-superblock source listed) in
    word_before c.self.inside.superblocks.items (stored_tenant c.args.t c.self.inside.tenants.items) mine.sizes (sets_read g.After-index c.index_mut-summary.result.now c.index_mut-summary.ensures.value) p.slot p.superblock c.root-old.result _ source.at (mine.shows p.slot p.superblock source.at) root

pub note-requires-clause-orders : goal.note-requires-clause-orders
note-requires-clause-orders c =
    let g = goal.at.note-requires-clause-orders c in
    let listed = (shown g.After-index).listed in
    let at = found g.After-search-first listed (source g.After-index_mut-superblock (tenant_read g.After-index)) in
    let step = reserved g.After-count_reserved at (tenant_before g.After-index_mut listed) in
    orders_listed c.self.inside.superblocks.items (stored_tenant c.args.t c.self.inside.tenants.items) (c.self.invariant.0.each c.args.t listed).sizes (sets_read g.After-index c.index_mut-summary.result.now c.index_mut-summary.ensures.value) _ c.reserve_at.new.self.tree.words c.root.result step.shows
    (c.root.ensures ∙ ap (λ (z : StoredTree). slice_index z.words 0) c.tree-3.ensures)

-- if nothing was found, the invariant still holds
pub invariant_of-self : goal.invariant_of-self
invariant_of-self c =
    let a = c.self.inside in (
      c.self.invariant.0,
      subst (AreExact a.superblocks.items a.tenants.items) (sym (ap (set a.summaries.items c.args.t) c.index_mut-summary.ensures.value ∙ set-get_or a.summaries.items c.args.t c.index_mut-summary.result.now)) c.self.invariant.1,
    )

pub invariant_of-self-2 : goal.invariant_of-self-2
invariant_of-self-2 c =
    let a = c.self.inside in
    let p = c.in_ok-source.source in
    let g = goal.at.invariant_of-self-2 c in
    let listed = (shown g.After-index).listed in
    let at = found g.After-search-first listed (source g.After-index_mut-superblock (tenant_read g.After-index)) in
    let step = reserved g.After-count_reserved at (tenant_before g.After-index_mut listed) in
    let root = c.root.ensures ∙ ap (λ (z : StoredTree). slice_index z.words 0) c.tree-3.ensures in (
      kept_changed a.order a.superblocks.items a.tenants.items c.args.t p.superblock c.reserve_at.new.self c.count_reserved.new.self c.self.invariant.0
          (step_change a.order a.superblocks.items a.tenants.items c.args.t p.slot p.superblock c.search-first.result c.reserve_at.new.self c.count_reserved.new.self (Some c.args.k) c.self.invariant.0 step),
      exact_noted a.superblocks.items a.tenants.items a.summaries.items c.self.invariant.1 c.args.t p.superblock p.slot c.reserve_at.new.self c.count_reserved.new.self c.root.result
          (step_noted a.order a.superblocks.items a.tenants.items c.self.invariant.0 c.args.t p.slot p.superblock c.search-first.result c.reserve_at.new.self c.count_reserved.new.self (Some c.args.k) step c.root.result root)
          c.index_mut-summary.result.now c.note.new.self c.index_mut-summary.ensures.value c.note.ensures.size c.note.ensures.sets,
    )

pub overflow_add-result : goal.overflow_add-result
overflow_add-result c =
    let a = c.self.inside in
    let p = c.in_ok-source.source in
    let g = goal.at.overflow_add-result c in
    let listed = (shown g.After-index).listed in
    let at = found g.After-search-first listed (source g.After-index_mut-superblock (tenant_read g.After-index)) in
    let inside = at.inside in
    let slot : p.slot ≤ 4095 = omega (arith, slot_small a.order a.superblocks.items a.tenants.items c.self.invariant.0 c.args.t listed p.slot p.superblock at.source.at) in
    let size = pow_mono {i = a.order} {j = 10} c.self.invariant.0.small in
    let first = mul-le p.slot (2 ^ a.order) 4095 1024 slot (omega arith) in
    let same = ap (λ n. n * 2 ^ a.order) c.from.ensures in
    omega arith

pub returns-clause-done : goal.returns-clause-done
returns-clause-done c =
    let a = c.self.inside in
    let p = c.in_ok-source.source in
    let x = c.search-first.result in
    let g = goal.at.returns-clause-done c in
    let s = shown g.After-index in
    let at = found g.After-search-first s.listed (source g.After-index_mut-superblock (tenant_read g.After-index)) in
    let step = reserved g.After-count_reserved at (tenant_before g.After-index_mut s.listed) in
    let changed = step_change a.order a.superblocks.items a.tenants.items c.args.t p.slot p.superblock x c.reserve_at.new.self c.count_reserved.new.self (Some c.args.k) c.self.invariant.0 step in
    let f = p.slot * 2 ^ a.order + x in
    let slot_lt : p.slot < WIDE_SUPERBLOCKS = slot_small a.order a.superblocks.items a.tenants.items c.self.invariant.0 c.args.t s.listed p.slot p.superblock at.source.at in
    let f_is : c.from.result * 2 ^ a.order % 4294967296 + x ≡ p.slot * 2 ^ a.order + x
    = ap (λ n. n * 2 ^ a.order % 4294967296 + x) c.from.ensures ∙ ap (λ n. n + x) (shl_whole p.slot 12 a.order 32 (omega arith) (let small = c.self.invariant.0.small in omega arith)) in
    let choice = by_shown (λ top held taken. IsChoice top held taken c.args.k (block f p.order)) a.order a.superblocks.items a.tenants.items c.args.t c.args.self.now s
    (is_choice c.self.invariant.0 at) in
    let h = with_block f c.args.k (holding_shown a.order a.superblocks.items (stored_tenant c.args.t a.tenants.items)) in
    let shown = shown_changed a.order a.superblocks.items a.tenants.items c.args.t p.superblock c.reserve_at.new.self c.count_reserved.new.self c.self.invariant.0 changed h
    (holding_now a.order a.superblocks.items a.tenants.items c.args.t p.slot p.superblock x c.reserve_at.new.self c.count_reserved.new.self (Some c.args.k) c.self.invariant.0 step) in (
      p.order,
      (
        subst (λ n. IsChoice c.args.self.now.top (is_held (holding_of c.args.t c.args.self.now)) (taken_of (holding_of c.args.t c.args.self.now)) c.args.k (block n p.order)) (sym f_is) choice,
        shown
            ∙ ap (λ x. with_holding c.args.t h x) c.self.view_is
            ∙ ap (λ g. with_holding c.args.t (with_block f c.args.k g) c.args.self.now) (sym s.holding)
            ∙ ap (λ n. with_holding c.args.t (with_block n c.args.k (holding_of c.args.t c.args.self.now)) c.args.self.now) (sym f_is),
      ),
    )

-- the superblock that is returned is in the slot of the block
pub returns-clause-under : goal.returns-clause-under
returns-clause-under c =
    let a = c.self.inside in
    let p = c.in_ok-source.source in
    let x = c.search-first.result in
    let g = goal.at.returns-clause-under c in
    let s = shown g.After-index in
    let at = found g.After-search-first s.listed (source g.After-index_mut-superblock (tenant_read g.After-index)) in
    let top = s.order in
    let slot_lt : p.slot < WIDE_SUPERBLOCKS = slot_small a.order a.superblocks.items a.tenants.items c.self.invariant.0 c.args.t s.listed p.slot p.superblock at.source.at in
    let f_is : c.from.result * 2 ^ a.order % 4294967296 + x ≡ p.slot * 2 ^ a.order + x
    = ap (λ n. n * 2 ^ a.order % 4294967296 + x) c.from.ensures ∙ ap (λ n. n + x) (shl_whole p.slot 12 a.order 32 (omega arith) (let small = c.self.invariant.0.small in omega arith)) in
    let slot : (c.from.result * 2 ^ a.order % 4294967296 + x) / 2 ^ c.args.self.now.top ≡ p.slot
    = ap (λ n. n / 2 ^ c.args.self.now.top) f_is ∙ ap (λ n. (p.slot * 2 ^ a.order + x) / 2 ^ n) top ∙ div-mul-add p.slot (2 ^ a.order) x at.inside in
    ap (superblock_at (holding_of c.args.t c.args.self.now)) slot ∙ ap (λ h. superblock_at h p.slot) s.holding ∙ at.source.at
