use Rattle.std.proofs.Common.{◌≡◌, ◌⊎◌, ◌*◌, ◌^◌, ◌<◌, ◌≤◌, ◌%◌, inl, inr, sym, ap, ◌∙◌, subst, ◌/◌, arith}
use Rattle.std.proofs.lemmas.Bool.{false≢true, le-leb, leb-true}
use Rattle.model_core.specs.declared.limits.TheConstants.{WIDE_FRAMES, WIDE_ORDER}
use Rattle.machine_changes.specs.Steady.{IsSteady}
use Rattle.slab_core.proofs.ObjectsInRange.{no_block, no_slab}
use Rattle.machine_changes.proofs.PageReachByBlock.{block_decides, no_block_decides}
use Rattle.machine_changes.specs.Shows.{machine_frame_of, has_slab}
use Rattle.kernel_core.specs.Content.{KernelContent, superblock_at}
use Rattle.kernel_core.proofs.CallEffects.{steady, opened, known}
use Rattle.kernel_core.proofs.PageCalls.{block_slot}
use Rattle.kernel_core.proofs.FrameKinds.{small_shift}
use Rattle.kernel_core.proofs.kernel.Kernel.is_in_reach.Goals as goal
use Rattle.kernel_core.proofs.kernel.Kernel.is_in_reach.Goals.{After-block_in, After-machine_frame_in-machine_frame, After-is_slab_in}

-- if neither of two alternatives holds, their disjunction does not
neither : {P Q : Type 0} → P ⊎ Q → (P → ⊥) → (Q → ⊥) → ⊥
neither (inl p) first second = first p
neither (inr q) first second = second q

only_first : {P Q : Type 0} → P ⊎ Q → (Q → ⊥) → P
only_first (inl p) second = p
only_first (inr q) second = absurd (second q)

only_second : {P Q : Type 0} → P ⊎ Q → (P → ⊥) → Q
only_second (inl p) first = absurd (first p)
only_second (inr q) first = q

lent : (c : After-block_in) → IsSteady c.self.inside.space c.self.inside.buddy c.self.inside.slabs c.args.t
lent c = steady _ _ _ c.args.t (opened _ _ _ _ c.self.view_is c.laws.ensures.together) (known _ _ _ _ c.args.t c.self.view_is c.requires.tenant)

-- The taken block has an order of at most WIDE_ORDER, so its number of frames does not overflow. Its first frame is below
-- WIDE_FRAMES.
small : (c : After-machine_frame_in-machine_frame) → (1 * 2 ^ c.in-Some.order % 18446744073709551616 ≡ 2 ^ c.in-Some.order) × (0 < 2 ^ c.in-Some.order) × (2 ^ c.in-Some.order ≤ 1024)
    × (c.in-Some.order ≤ WIDE_ORDER) × (c.in-Some.first < WIDE_FRAMES)
small c =
    let together = opened _ _ _ _ c.self.view_is c.laws.ensures.together in
    let st = steady _ _ _ c.args.t together (known _ _ _ _ c.args.t c.self.view_is c.requires.tenant) in
    let few : c.in-Some.order ≤ WIDE_ORDER = omega (arith, (st.sound.placed c.in-Some.first c.in-Some.order c.in-Some.ensures.0).0.0, together.agree.order, together.buddy.sizes.small) in
    let shift = small_shift c.in-Some.order few in
    (shift.0, shift.1, shift.2, few, st.few c.in-Some.first c.in-Some.order c.in-Some.ensures.0)

-- `is_slab_in` returned whether a slab begins at the first frame of the block
told : (c : After-is_slab_in) → has_slab c.self.inside.slabs (machine_frame_of c.self.inside.slabs.top c.self.inside.space.slots c.args.t c.in-Some.first) ≡ c.is_slab_in.result
told c =
    ap (has_slab c.self.inside.slabs) (ap (λ (k : KernelContent). machine_frame_of k.slabs.top k.space.slots c.args.t c.in-Some.first) c.self.view_is ∙ c.machine_frame_in-machine_frame.ensures.value)
    ∙ sym c.is_slab_in.ensures

-- the block that contains the place lies in the same slot as the place
pub machine_frame_in-machine_frame-requires : goal.machine_frame_in-machine_frame-requires
machine_frame_in-machine_frame-requires c =
    let k = c.self.inside in
    let same = block_slot k.space k.buddy k.slabs c.args.t c.in-Some.first c.in-Some.order (c.args.place / 4096) (lent (goal.at.machine_frame_in-machine_frame-requires c).After-block_in) c.in-Some.ensures.0 c.in-Some.ensures.1 in
    ap (superblock_at c.args.self.now c.args.t)
    (subst (λ n. c.in-Some.first / 2 ^ n ≡ c.args.place / 4096 / 2 ^ n) (sym c.self.invariant.order ∙ ap (λ (x : KernelContent). x.order) c.self.view_is) same)
    ∙ c.requires.under

pub returns-in_default : goal.returns-in_default
returns-in_default c =
    let x = c.args in
    let k = c.self.inside in
    let lends = lent (goal.at.returns-in_default c).After-block_in in
    rw (← c.self.view_is) (
      (λ e. absurd (false≢true e)),
      (λ reach. absurd (neither reach.inside
          (no_block_decides k.space k.buddy k.slabs x.t x.place x.len reach.some c.in_default.ensures)
          (λ o. no_block k.space k.buddy k.slabs x.t x.place x.len lends c.in_default.ensures o.0 o.1))),
    )

pub returns-then-is_slab_in : goal.returns-then-is_slab_in
returns-then-is_slab_in c =
    let x = c.args in
    let k = c.self.inside in
    let some : 0 < x.len = omega arith in
    let tells = block_decides k.space k.buddy k.slabs x.t x.place x.len c.in-Some.first c.in-Some.order (lent (goal.at.returns-then-is_slab_in c).After-block_in) some
    c.in-Some.ensures.0 c.in-Some.ensures.1 in
    rw (← c.self.view_is) (
      (λ e. record { some = some; inside = inr (c.object_in.ensures.0 e) }),
      (λ reach. c.object_in.ensures.1 (only_second reach.inside (λ page. false≢true (sym (tells.0 page).0 ∙ (told (goal.at.returns-then-is_slab_in c).After-is_slab_in ∙ c.if-is_slab_in.true))))),
    )

pub overflow_shl-result : goal.overflow_shl-result
overflow_shl-result c = let few = (small (goal.at.overflow_shl-result c).After-machine_frame_in-machine_frame).3 in omega arith

pub overflow_add-result : goal.overflow_add-result
overflow_add-result c =
    let is = small (goal.at.overflow_add-result c).After-machine_frame_in-machine_frame in
    omega (arith, is.0, is.2, is.4, c.from-4.ensures)

pub overflow_mul-result : goal.overflow_mul-result
overflow_mul-result c =
    let is = small (goal.at.overflow_mul-result c).After-machine_frame_in-machine_frame in
    rw (c.from-3.ensures, c.from-4.ensures, is.0) (omega (arith, is.2, is.4))

pub returns : goal.returns
returns c =
    let x = c.args in
    let k = c.self.inside in
    let g = goal.at.returns c in
    let lends = lent g.After-block_in in
    let is = small g.After-machine_frame_in-machine_frame in
    let page = told g.After-is_slab_in ∙ c.if-is_slab_in.false in
    let some : 0 < x.len = omega arith in
    let tells = block_decides k.space k.buddy k.slabs x.t x.place x.len c.in-Some.first c.in-Some.order lends some
    c.in-Some.ensures.0 c.in-Some.ensures.1 in
    rw (c.from.ensures, c.from-2.ensures, c.from-3.ensures, c.from-4.ensures, is.0, ← c.self.view_is) (
      (λ fits. record { some = some; inside = inl (tells.1 (page, leb-true _ _ fits)) }),
      (λ reach. le-leb _ _ (tells.0 (only_first reach.inside
          (λ o. no_slab k.space k.buddy k.slabs x.t x.place x.len lends c.in-Some.first c.in-Some.order c.in-Some.ensures.0 c.in-Some.ensures.1 page o.0 o.1))).1),
    )
