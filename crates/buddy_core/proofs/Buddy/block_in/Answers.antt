use Rattle.std.proofs.Common.{sym, ◌∙◌, ap, subst, ◌≡◌, inl, inr, ℕ, ◌*◌, ◌/◌, ◌%◌, ◌^◌, ◌<◌, ◌≤◌, Some, None, get_or, length, Option, eqb, true, refl, arith, below_more}
use Rattle.std.proofs.lemmas.Bool.{cases_lt, both_ways, eq-eqb, eqb-true, false≢true}
use Rattle.std.proofs.lemmas.List.{get_or_read}
use Rattle.std.proofs.lemmas.Nat.{pow_pos, mod_below, shr_split}
use Rattle.std.specs.Option.{option_eq}
use Rattle.model_core.specs.Blocks.{IsSound}
use Rattle.buddy_core.specs.Content.{superblock_at as held_at, holding_of, taken_of, IsSoundHolding}
use Rattle.buddy_core.specs.Stored.{StoredSuperblock, superblock_of, stored_tenant, superblock_at}
use Rattle.buddy_core.proofs.ContentShown.{IsShown, shown_is, by_shown, slot_at, size_is, bare_of}
use Rattle.buddy_core.proofs.Releasing.{begins_at}
use Rattle.buddy_core.proofs.BlocksAround.{begins_around, no_wrap, same_slot}
use Rattle.buddy_core.proofs.Buddy.block_in.Goals as goal
use Rattle.buddy_core.proofs.Buddy.block_in.Goals.{After-self, After-order_at}

-- what contracts see of tenant t is what is stored for it, and superblock m is in the slot of the frame
shown : (c : After-self) → IsShown c.self.inside.order c.self.inside.superblocks.items c.self.inside.tenants.items c.args.t c.args.self.now
shown c = shown_is c.self.inside.order c.self.inside.superblocks.items c.self.inside.tenants.items c.args.t c.args.self.now c.self.view_is c.requires.tenant

under : (c : After-self) → superblock_at (stored_tenant c.args.t c.self.inside.tenants.items) (c.args.frame / 2 ^ c.self.inside.order) ≡ Some c.args.m
under c =
    sym (slot_at c.self.inside.order c.self.inside.superblocks.items c.self.inside.tenants.items c.args.self.now c.self.view_is c.args.t (c.args.frame / 2 ^ c.self.inside.order))
    ∙ (ap (λ n. held_at (holding_of c.args.t c.args.self.now) (c.args.frame / 2 ^ n)) (sym (shown c).order) ∙ c.requires.under)

within : (c : After-self) → c.args.m < length c.self.inside.superblocks.items
within c = (c.self.invariant.0.each c.args.t (shown c).listed).within _ _ (under c)

read : (c : After-self) (z : StoredSuperblock) → z ≡ get_or c.self.inside.superblocks.items c.args.m z → z ≡ superblock_of c.args.m c.self.inside.superblocks.items
read c z e = get_or_read c.self.inside.superblocks.items c.args.m z (within c) e bare_of

-- `order_at` returns the tenant's entry at the first frame of the aligned block of order k around `frame`
entry : (c : After-order_at) → IsShown c.self.inside.order c.self.inside.superblocks.items c.self.inside.tenants.items c.args.t c.args.self.now
    → superblock_at (stored_tenant c.args.t c.self.inside.tenants.items) (c.args.frame / 2 ^ c.self.inside.order) ≡ Some c.args.m
    → c.index-superblock.result.now ≡ superblock_of c.args.m c.self.inside.superblocks.items
    → c.order_at.result ≡ taken_of (holding_of c.args.t c.args.self.now) (c.args.frame / 2 ^ c.loop-k.k * 2 ^ c.loop-k.k)
entry c s at superblock =
    let a = c.self.inside in
    let first = c.args.frame / 2 ^ c.loop-k.k * 2 ^ c.loop-k.k in
    c.order_at.ensures
    ∙ ap (λ (z : StoredSuperblock). get_or z.orders (first % 4294967296 % (1 * 2 ^ a.order % 4294967296)) None) superblock
    ∙ ap (λ n. get_or (superblock_of c.args.m a.superblocks.items).orders (n % (1 * 2 ^ a.order % 4294967296)) None) (no_wrap c.args.frame c.loop-k.k c.ranges.frame.fits)
    ∙ begins_at a.order a.superblocks.items a.tenants.items c.self.invariant.0.small c.args.t c.args.self.now s first (Some c.args.m)
    (ap (superblock_at (stored_tenant c.args.t a.tenants.items)) (same_slot a.order c.args.frame c.loop-k.k c.loop-k-test.true) ∙ at)

same_order : (o : Option ℕ) (k : ℕ) → option_eq eqb o (Some k) ≡ true → o ≡ Some k
same_order None k e = absurd (false≢true e)
same_order (Some i) k e = ap Some (eqb-true i k e)

pub index-superblock-requires : goal.index-superblock-requires
index-superblock-requires c =
    let m_lt = within (goal.at.index-superblock-requires c).After-self in
    omega (arith, c.self.inside.superblocks.ok.0)

pub order_at-requires : goal.order_at-requires
order_at-requires c =
    let g = (goal.at.order_at-requires c).After-self in
    let order = ap (λ (y : StoredSuperblock). 2 ^ y.tree.order) (read g c.index-superblock.result.now c.index-superblock.ensures) ∙ ap (λ n. 2 ^ n) (c.self.invariant.0.order c.args.m (within g)) in
    omega (arith, order, size_is c.self.inside.order c.self.invariant.0.small, mod_below (c.args.frame / 2 ^ c.loop-k.k * 2 ^ c.loop-k.k % 2 ^ 32) (2 ^ c.self.inside.order) (pow_pos c.self.inside.order))

pub returns-then-eq : goal.returns-then-eq
returns-then-eq c =
    let g = goal.at.returns-then-eq c in
    let found = sym (entry g.After-order_at (shown g.After-self) (under g.After-self) (read g.After-self c.index-superblock.result.now c.index-superblock.ensures)) ∙ same_order c.order_at.result c.loop-k.k (sym c.eq.ensures ∙ c.if-eq.true) in
    let whole = no_wrap c.args.frame c.loop-k.k c.ranges.frame.fits in
    let split = shr_split c.args.frame c.loop-k.k in
    let rest = mod_below c.args.frame (2 ^ c.loop-k.k) (pow_pos c.loop-k.k) in
    (ap (taken_of (holding_of c.args.t c.args.self.now)) whole ∙ found, (omega arith, omega arith))

-- for each order j up to k, no taken block of order j begins where the aligned block of order j around the frame begins
pub loop-k-preserved : goal.loop-k-preserved
loop-k-preserved c =
    let g = goal.at.loop-k-preserved c in
    let is = entry g.After-order_at (shown g.After-self) (under g.After-self) (read g.After-self c.index-superblock.result.now c.index-superblock.ensures) in
    below_more _ _ c.loop-k.invariant (λ there. both_ways c.eq.result c.if-eq.false (c.eq.ensures ∙ ap (λ o. option_eq eqb o (Some c.loop-k.k)) (is ∙ there) ∙ eq-eqb c.loop-k.k c.loop-k.k refl))

pub returns-else-eq : goal.returns-else-eq
returns-else-eq c (f, k, e, has) =
    let a = c.self.inside in
    let g = goal.at.returns-else-eq c in
    let s = shown g.After-self in
    let is = entry g.After-order_at s (under g.After-self) (read g.After-self c.index-superblock.result.now c.index-superblock.ensures) in
    let sound : IsSoundHolding c.args.self.now.top (holding_of c.args.t c.args.self.now)
    = by_shown IsSound a.order a.superblocks.items a.tenants.items c.args.t c.args.self.now s (c.self.invariant.0.each c.args.t s.listed).sound in
    let placed = (sound.placed f k e).0 in
    let around = begins_around (taken_of (holding_of c.args.t c.args.self.now)) c.args.frame f k placed.1 e has in
    let within : k ≤ a.order = subst (λ n. k ≤ n) s.order placed.0 in
    elim (cases_lt k c.loop-k.k) [
      | inl lt ↦ c.loop-k.invariant k lt around
      | inr ge ↦
          let same : k ≡ c.loop-k.k = omega arith in
          let there = subst (λ n. taken_of (holding_of c.args.t c.args.self.now) (c.args.frame / 2 ^ n * 2 ^ n) ≡ Some n) same around in
          both_ways c.eq.result c.if-eq.false (c.eq.ensures ∙ ap (λ o. option_eq eqb o (Some c.loop-k.k)) (is ∙ there) ∙ eq-eqb c.loop-k.k c.loop-k.k refl)
    ]
